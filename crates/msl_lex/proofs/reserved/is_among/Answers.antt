use Rattle.std.proofs.Common.{[], Bor, ap, sym, ◌∙◌, List, ℕ}
use Rattle.std.specs.Str.{bytes_eq}
use Rattle.msl_lex.proofs.Tables.{found_at, not_at}
use Rattle.msl_lex.proofs.reserved.is_among.Goals as goal

pub returns-then-eq : goal.returns-then-eq
returns-then-eq c =
    found_at (λ (w : Bor (List ℕ)). bytes_eq c.args.word.now w.now) c.args.words.now c.loop-w.w-index (record { ref_ptr = (0, 0); now = [] }) c.loop-w-test.true c.loop-w.invariant
    (ap (λ (t : List ℕ). bytes_eq c.args.word.now t) (sym c.as_bytes.ensures.value) ∙ sym c.if-eq.ensures)

pub loop-w-preserved : goal.loop-w-preserved
loop-w-preserved c =
    not_at (λ (w : Bor (List ℕ)). bytes_eq c.args.word.now w.now) c.args.words.now c.loop-w.w-index (record { ref_ptr = (0, 0); now = [] }) c.loop-w-test.true c.loop-w.invariant
    (ap (λ (t : List ℕ). bytes_eq c.args.word.now t) (sym c.as_bytes.ensures.value) ∙ sym c.if-eq.ensures)
