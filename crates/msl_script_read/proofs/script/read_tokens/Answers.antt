use Rattle.std.proofs.Common.{ap, sym, subst, ◌∙◌}
use Rattle.msl_grammar.specs.ScriptGrammar.{items, reading, whole}
use Rattle.msl_program.specs.Known.{script_of}
use Rattle.msl_program.specs.ScriptPromise.{IsScript}
use Rattle.msl_grammar.proofs.Exits.{is_err}
use Rattle.msl_script_read.proofs.WholeScripts.{script_of_tokens}
use Rattle.msl_script_read.proofs.script.read_tokens.Goals as goal

pub returns-in_err-version : goal.returns-in_err-version
returns-in_err-version c = rw (is_err c.from_residual.result c.from_residual.ensures.1) (c.in_err-version.ensures _)

pub with_main-requires : goal.with_main-requires
with_main-requires c =
    let known = c.items.new.self.known in
    let begun = ap (λ m. reading c.version.new.c (items m)) (sym c.new.ensures) in
    let read = ap whole (c.in_ok-version.ensures _ ∙ begun ∙ c.in_ok-items.ensures.goes) ∙ c.in_ok-main.ensures.main in
    subst (λ m. IsScript (script_of m c.in_ok-main.main)) (sym c.main.ensures.known)
    (script_of_tokens c.args.cursor (script_of known c.in_ok-main.main) c.requires read)
