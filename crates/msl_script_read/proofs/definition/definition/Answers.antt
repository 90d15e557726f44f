use Rattle.std.proofs.Common.{◌∙◌, map, refl, sym}
use Rattle.msl_grammar.specs.Known as known
use Rattle.msl_grammar.specs.ScriptGrammar.{a_definition, of_kind, reading}
use Rattle.msl_grammar.proofs.Leaves.{name_passes, name_fails, kind_absent, kind_found, placed}
use Rattle.msl_script_read.proofs.StageLeaves.{declared}
use Rattle.msl_script_read.proofs.definition.definition.Goals as goal

pub returns-in_default-position_named-clause-read : goal.returns-in_default-position_named-clause-read
returns-in_default-position_named-clause-read g c =
    let m = c.args.known.now in
    let n = c.in-Some.name.now in
    let names = map g.T.Named.called c.args.items.now in
    let none = sym c.position_named.ensures ∙ c.in_default-position_named.is in
    rw (c.refusal.ensures, c.unknown.ensures)
    (λ k. name_fails (a_definition m names k) (of_kind m names) (λ at n. k (known.place names n)) (λ t behind. refl) c.args.c.now n _ c.in-Some.ensures.name (kind_absent m names _ n none))

pub returns-clause-read : goal.returns-clause-read
returns-clause-read g c =
    let m = c.args.known.now in
    let n = c.in-Some.name.now in
    let names = map g.T.Named.called c.args.items.now in
    let place = c.in-Some-position_named.place in
    let some = sym c.position_named.ensures ∙ c.in-Some-position_named.is in
    λ k. name_passes (a_definition m names k) (of_kind m names) (λ at n. k (known.place names n)) (λ t behind. refl) c.args.c.now n c.in-Some.ensures.name
    (kind_found m names _ n place some (declared g.T.Named.called c.args.items.now n m c.requires.among place some))
    ∙ (λ i. reading (sym c.advance.ensures i) (k (placed names n place some i)))
