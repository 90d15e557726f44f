use Rattle.std.proofs.Common.{rules, ◌≡◌, ◌-◌, ℕ, ℤ, pos, List, [], ◌∷◌, ◌++◌, length, length-append, take, to_z, Ok, sym, ap, ◌∙◌, arith}
use Rattle.std.specs.Int.{w64}
use Rattle.std.proofs.Math.Seq.{take-append_seam}
use Rattle.std.proofs.lemmas.Result.{err_from_is_err_and}
use Rattle.msl_base.specs.Streams.{Record, Outcome}
use Rattle.msl_program.specs.Calls.{run}
use Rattle.msl_stage.specs.Answers.{records_of}
use Rattle.msl_stage.specs.Outputs.{numbered}
use Rattle.msl_stage.proofs.Filtering.{each_more, each_stops, records_more, stops}
use Rattle.msl_stage.proofs.filter.Calls.numbered.Goals as goal

-- a number behind what is in scope
behind : (s before now : Record) (z : ℤ) (k : ℕ) → before ≡ s → now ≡ before ++ z ∷ [] → z ≡ pos k → now ≡ s ++ pos k ∷ []
behind s before now z k a b e = b ∙ ap (λ (xs : Record). xs ++ z ∷ []) a ∙ ap (λ (x : ℤ). s ++ x ∷ []) e

-- it is taken off
taken_off : (s now : Record) (z : ℤ) → now ≡ s ++ z ∷ [] → take (length now - 1) now ≡ s
taken_off s now z e =
    let long : length (s ++ z ∷ []) - 1 ≡ length s = omega (arith, length-append s (z ∷ [])) in
    ap (λ (xs : Record). take (length xs - 1) xs) e ∙ ap (λ n. take n (s ++ z ∷ [])) long ∙ take-append_seam s (z ∷ [])

pub returns-in_err-out-clause-outs : goal.returns-in_err-out-clause-outs
returns-in_err-out-clause-outs c =
    let w = c.args.self.now in
    let s = c.args.scope.now in
    let k = c.loop-k.k in
    let f : ℕ → Outcome = λ i. run w.funs.now w.stage c.args.f (s ++ pos i ∷ []) in
    let number : to_z w64 k ≡ pos k = search rules in
    let at = behind s c.loop-k.scope c.push.new.self (to_z w64 k) k c.loop-k.invariant.scope c.push.ensures number in
    let out = err_from_is_err_and c.from_residual-in_err-out.result c.from_residual-in_err-out.ensures.1 in
    rw (out.1, out.2) (stops (run w.funs.now w.stage c.args.f c.push.new.self) (numbered w.funs.now w.stage c.args.f s c.args.n) c.in_err-out.field-0.0
    (λ e is. each_stops f k c.args.n (records_of c.loop-k.outs.items) e (omega arith) c.loop-k.invariant.so_far (sym (ap (run w.funs.now w.stage c.args.f) at) ∙ is))
    c.in_err-out.ensures.made)

pub loop-k-preserved : goal.loop-k-preserved
loop-k-preserved c =
    let w = c.args.self.now in
    let s = c.args.scope.now in
    let k = c.loop-k.k in
    let f : ℕ → Outcome = λ i. run w.funs.now w.stage c.args.f (s ++ pos i ∷ []) in
    let number : to_z w64 k ≡ pos k = search rules in
    let at = behind s c.loop-k.scope c.push.new.self (to_z w64 k) k c.loop-k.invariant.scope c.push.ensures number in
    let items : c.push_reserved.new.self.items ≡ c.loop-k.outs.items ++ c.in_ok-out.out ∷ [] = c.push_reserved.ensures.items in
    record {
      so_far =
          each_more f k (records_of c.loop-k.outs.items) c.in_ok-out.out.numbers c.loop-k.invariant.so_far (sym (ap (run w.funs.now w.stage c.args.f) at) ∙ c.in_ok-out.ensures.made)
          ∙ ap (λ (rs : List Record). Ok rs) (sym (records_more c.loop-k.outs.items c.in_ok-out.out) ∙ ap records_of (sym items));
      scope = c.leave.ensures ∙ taken_off s c.record.new.scope (pos k) (c.in_ok-out.ensures.scope ∙ at);
      count = omega (arith, ap length items, length-append c.loop-k.outs.items (c.in_ok-out.out ∷ []), c.loop-k.invariant.count);
      within = omega arith;
      room = search rules;
    }
