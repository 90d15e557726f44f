use Rattle.std.proofs.Common.{rules, ◌<◌, length, take, ap, sym, ◌∙◌, subst, arith, FitsSigned, w64, to_z-of_z, length-take, length-drop}
use Rattle.std.proofs.Math.ListN.{length-set}
use Rattle.std.proofs.lemmas.List.{take_more_set}
use Rattle.msl_read.specs.Refusals.{IsRefused}
use Rattle.msl_grammar.specs.ScriptGrammar.{reading, more_state_numbers}
use Rattle.msl_grammar.proofs.Exits.{is_err}
use Rattle.msl_grammar.proofs.FilterLeaves.{one_more, end_of_state}
use Rattle.msl_grammar.proofs.filter.state_numbers.Goals as goal

pub returns-in_err-numbers-clause-read : goal.returns-in_err-numbers-clause-read
returns-in_err-numbers-clause-read c = rw (is_err c.from_residual.result c.from_residual.ensures.1) (λ k. c.in_err-numbers.ensures.read _)

pub returns-in_err-numbers-2-clause-read : goal.returns-in_err-numbers-2-clause-read
returns-in_err-numbers-2-clause-read c =
    let zs = take c.loop-c.len c.loop-c.numbers in
    rw (is_err c.from_residual-in_err-numbers-2.result c.from_residual-in_err-numbers-2.ensures.1)
    (λ k.
    let goes = c.loop-c.invariant.goes k ∙ one_more zs k c.loop-c.c c.take.new.self (sym c.loop-c-test.ensures.said) c.loop-c-test.ensures.taken in
    subst (λ r. IsRefused r c.in_err-numbers-2.field-0.0) (sym goes) (c.in_err-numbers-2.ensures.read _))

pub loop-c-preserved : goal.loop-c-preserved
loop-c-preserved c =
    let fits : FitsSigned w64 c.in_ok-numbers-2.field-0 = search rules in
    rw (to_z-of_z fits)
    (let len = c.loop-c.len in
    let ns = c.loop-c.numbers in
    let z = c.in_ok-numbers-2.field-0 in
    let old = c.loop-c.invariant in
    let h = c.in_ok-numbers-2.ensures in
    let room : len < length ns = omega (arith, h.room, length-take len ns, old.room, old.few) in
    record {
      some = omega arith;
      few = omega (arith, room, old.room);
      room = length-set ns len z ∙ old.room;
      shorter = omega (arith, h.shorter, old.shorter, ap length c.loop-c-test.ensures.taken, length-drop 1 c.loop-c.c);
      goes = λ k. old.goes k ∙ one_more (take len ns) k c.loop-c.c c.take.new.self (sym c.loop-c-test.ensures.said) c.loop-c-test.ensures.taken
          ∙ h.read _ ∙ ap (λ zs. reading c.state_number.new.c (more_state_numbers zs k)) (sym (take_more_set ns len z room));
    })

pub returns-in_err-quoted-clause-read : goal.returns-in_err-quoted-clause-read
returns-in_err-quoted-clause-read c =
    let zs = take c.loop-c.len c.loop-c.numbers in
    rw (is_err c.from_residual-in_err-quoted.result c.from_residual-in_err-quoted.ensures.1)
    (λ k.
    let goes = c.loop-c.invariant.goes k ∙ end_of_state zs k c.loop-c.c c.take.new.self (sym c.loop-c-test.ensures.said) c.loop-c-test.ensures.taken in
    subst (λ r. IsRefused r c.in_err-quoted.field-0.0) (sym goes) (c.in_err-quoted.ensures.read _))
