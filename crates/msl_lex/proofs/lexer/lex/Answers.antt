use Rattle.std.proofs.Common.{ap, take, drop, length, ◌-◌, arith, subst, sym}
use Rattle.std.proofs.lemmas.List.{take_rest}
use Rattle.std.proofs.lemmas.Result.{err_from_is_err_and}
use Rattle.msl_lex.specs.Layout.{IsRefusalOf}
use Rattle.msl_lex.specs.Pieces.{front_of, length_of}
use Rattle.msl_lex.proofs.Layouts.{laid_out, is_refusal}
use Rattle.msl_lex.proofs.Steps.{inside-more, reads_gap, reads_token, reads_refused, reads_end}
use Rattle.msl_lex.proofs.lexer.lex.Goals as goal

pub loop-at-preserved-in-Gap : goal.loop-at-preserved-in-Gap
loop-at-preserved-in-Gap c =
    let text = c.args.text.now in
    let at = c.loop-at.at in
    let n = c.in-Gap.len in
    let p = front_of c.in_ok-len.field-0 in
    let from = take_rest text at in
    let rest = take (length text - at) (drop at text) in
    record {
      inside = inside-more text rest at n p from c.in_ok-len.ensures.piece c.in_ok-len.ensures.within c.loop-at.invariant.inside (ap (λ q. length_of (front_of q)) c.in-Gap.is);
      read = reads_gap text rest at n p from c.in_ok-len.ensures.piece c.in_ok-len.ensures.within _ (ap front_of c.in-Gap.is) c.loop-at.invariant.read;
    }

pub loop-at-preserved : goal.loop-at-preserved
loop-at-preserved c =
    let text = c.args.text.now in
    let at = c.loop-at.at in
    let n = c.in-Token.len in
    let p = front_of c.in_ok-len.field-0 in
    let from = take_rest text at in
    let rest = take (length text - at) (drop at text) in
    let more = reads_token text rest at n p from c.in_ok-len.ensures.piece c.in_ok-len.ensures.within c.loop-at.tokens c.in-Token.kind (ap front_of c.in-Token.is) c.loop-at.invariant.read in
    record {
      inside = inside-more text rest at n p from c.in_ok-len.ensures.piece c.in_ok-len.ensures.within c.loop-at.invariant.inside (ap (λ q. length_of (front_of q)) c.in-Token.is);
      read = rw (c.in_ok-add-in-Token.ensures.ok, c.token.ensures) more;
    }

pub returns-in_err-len-clause-refusal : goal.returns-in_err-len-clause-refusal
returns-in_err-len-clause-refusal c =
    let text = c.args.text.now in
    let at = c.loop-at.at in
    let fault = c.in_err-len.field-0.0 in
    let rest = take (length text - at) (drop at text) in
    let read = reads_refused text rest at fault _ (take_rest text at) c.loop-at-test.true c.in_err-len.ensures.piece c.loop-at.invariant.read in
    let given = err_from_is_err_and c.from_residual.result c.from_residual.ensures.1 in
    rw given.1 (subst (IsRefusalOf text) (sym given.2) (is_refusal text fault read))

pub returns-clause-tokens : goal.returns-clause-tokens
returns-clause-tokens c =
    let text = c.args.text.now in
    let read = reads_end text c.loop-at.at c.loop-at.tokens (omega (arith, c.loop-at-test.false)) c.loop-at.invariant.read in
    rw (c.in_ok-add.ensures.ok, c.token-2.ensures) (record { said = laid_out text _ read })
