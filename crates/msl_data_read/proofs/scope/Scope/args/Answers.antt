use Rattle.std.proofs.Common.{codes, length, ap, sym, subst, arith, length-drop, ◌∙◌}
use Rattle.msl_read.proofs.Cursors.{shorter}
use Rattle.msl_read.specs.Refusals.{IsRefused}
use Rattle.msl_grammar.specs.ScriptGrammar.{token, one_arg, more_args, reading}
use Rattle.msl_grammar.proofs.Exits.{is_err}
use Rattle.msl_data_read.proofs.ProgramLeaves.{args_go_on, args_end}
use Rattle.msl_data_read.proofs.scope.Scope.args.Goals as goal

pub loop-more-init : goal.loop-more-init
loop-more-init c =
    let p = c.args.self.now.program.now in
    record {
      fun = ap (λ u. u.fun) c.in_ok-more.ensures;
      shorter = c.in_ok-arg.ensures.shorter;
      goes = λ k. c.in_ok-arg.ensures.read _ ∙ ap (λ u. reading c.arg.new.c (more_args p u k)) (sym c.in_ok-more.ensures);
    }

pub loop-more-smaller : goal.loop-more-smaller
loop-more-smaller c =
    let less = shorter c.loop-more.c (codes ",") (sym c.loop-more-test.ensures.said) in
    let taken = ap length c.loop-more-test.ensures.taken in
    omega (arith, less, taken, c.in_ok-arg-2.ensures.shorter)

pub loop-more-preserved : goal.loop-more-preserved
loop-more-preserved c =
    let p = c.args.self.now.program.now in
    let taken = ap length c.loop-more-test.ensures.taken in
    record {
      fun = ap (λ u. u.fun) c.in_ok-more-2.ensures ∙ c.loop-more.invariant.fun;
      shorter = omega (arith, taken, length-drop 1 c.loop-more.c, c.in_ok-arg-2.ensures.shorter, c.loop-more.invariant.shorter);
      goes = λ k. c.loop-more.invariant.goes k
          ∙ args_go_on p c.loop-more.more k c.loop-more.c (sym c.loop-more-test.ensures.said)
          ∙ ap (λ ts. reading ts (one_arg p c.loop-more.more k)) (sym c.loop-more-test.ensures.taken)
          ∙ c.in_ok-arg-2.ensures.read _
          ∙ ap (λ u. reading c.arg-in-loop-more.new.c (more_args p u k)) (sym c.in_ok-more-2.ensures);
    }

pub returns-in_err-arg-clause-read : goal.returns-in_err-arg-clause-read
returns-in_err-arg-clause-read c = rw (is_err c.from_residual.result c.from_residual.ensures.1) (λ k. c.in_err-arg.ensures.read _)

pub returns-in_err-arg-2-clause-read : goal.returns-in_err-arg-2-clause-read
returns-in_err-arg-2-clause-read c =
    let p = c.args.self.now.program.now in
    rw (is_err c.from_residual-in_err-arg-2.result c.from_residual-in_err-arg-2.ensures.1)
    (λ k.
    let goes = c.loop-more.invariant.goes k
    ∙ args_go_on p c.loop-more.more k c.loop-more.c (sym c.loop-more-test.ensures.said)
    ∙ ap (λ ts. reading ts (one_arg p c.loop-more.more k)) (sym c.loop-more-test.ensures.taken) in
    subst (λ r. IsRefused r c.in_err-arg-2.field-0.0) (sym goes) (c.in_err-arg-2.ensures.read _))

pub returns-in_err-quoted-clause-read : goal.returns-in_err-quoted-clause-read
returns-in_err-quoted-clause-read c =
    let p = c.args.self.now.program.now in
    rw (is_err c.from_residual-in_err-quoted.result c.from_residual-in_err-quoted.ensures.1)
    (λ k.
    let goes = c.loop-more.invariant.goes k
    ∙ args_end p c.loop-more.more k c.loop-more.c (sym c.loop-more-test.ensures.said)
    ∙ ap (λ ts. reading ts (token (codes ")") (k c.loop-more.more))) (sym c.loop-more-test.ensures.taken) in
    subst (λ r. IsRefused r c.in_err-quoted.field-0.0) (sym goes) (c.in_err-quoted.ensures.read _))

pub returns-clause-read : goal.returns-clause-read
returns-clause-read c =
    let p = c.args.self.now.program.now in
    λ k. c.loop-more.invariant.goes k
    ∙ args_end p c.loop-more.more k c.loop-more.c (sym c.loop-more-test.ensures.said)
    ∙ ap (λ ts. reading ts (token (codes ")") (k c.loop-more.more))) (sym c.loop-more-test.ensures.taken)
    ∙ c.in_ok-quoted.ensures.read _
