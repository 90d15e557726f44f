use Rattle.std.proofs.Common.{◌≡◌, ◌∙◌, true, sym, ap, true≢false}
use Rattle.clap.specs.Simple.{App, app_of}
use Rattle.clap.specs.Takes.{takes}
use Rattle.clap.specs.Walk.{texts}
use Rattle.msl_words.proofs.Forms.{takes-words}
use Rattle.msl_words.proofs.grammar.matches_of.Goals as goal
use Rattle.msl_words.proofs.grammar.matches_of.Goals.{in-OutOfMemory, in_default}

pub prove-unreachable-requires : goal.prove-unreachable-requires
prove-unreachable-requires c =
    let words = texts c.args.words.now in
    let taken : takes (app_of c.in_ok-grammar.field-0) words ≡ true = ap (λ (a : App). takes a words) c.in_ok-grammar.ensures ∙ takes-words words c.requires in
    let kind = c.kind.ensures ∙ c.in-Err.ensures.passes taken in
    elim c.match-matches.branch [
      | in-OutOfMemory w ↦ true≢false (sym w.matches-is ∙ c.if-prove.true)
      | in_default w ↦ w.in_default.not-OutOfMemory kind
    ]
