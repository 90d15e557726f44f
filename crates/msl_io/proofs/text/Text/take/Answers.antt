use Rattle.std.proofs.Common.{◌≡◌, ◌+◌, ◌++◌, [], ◌∷◌, ap, refl, ◌==◌, length}
use Rattle.std.proofs.lemmas.Bool.{eqb-true}
use Rattle.msl_io.specs.declared.text.Text.{Text}
use Rattle.msl_io.specs.Taking.{Scanned}
use Rattle.msl_io.proofs.Taking.{scanned_cr, scanned_whole, has_taken_cr, has_taken_text}
use Rattle.msl_io.proofs.text.Text.take.Goals.{then-self, else-self, then-self-2, else-self-2}
use Rattle.msl_io.proofs.text.Text.take.Goals as goal

pub returns-clause-taken : goal.returns-clause-taken
returns-clause-taken c taken h no_lf =
    let old = c.args.self.now in
    let bytes = c.args.bytes.now in
    let last = c.in-Some.last.now in
    let new : Text = record { words = c.take.new.self; word = c.in_ok-self.field-0; cr = last == 13; len = c.if-self.self.len + length bytes } in
    let before : Scanned taken c.if-self.self.words c.if-self.self.word = elim c.if-self.branch [
      | then-self w ↦ rw w.self-is (scanned_cr taken old w.refuse.new.self h w.if-self.true w.refuse.ensures)
      | else-self w ↦ rw w.self-is (scanned_whole taken old h w.if-self.false)
    ] in
    let len : new.len ≡ old.len + length bytes = elim c.if-self.branch [
      | then-self w ↦ ap (λ (t : Text). t.len + length bytes) w.self-is
      | else-self w ↦ ap (λ (t : Text). t.len + length bytes) w.self-is
    ] in
    let scanned = c.in_ok-self.ensures taken before in
    let split : bytes ≡ c.in-Some.front.now ++ last ∷ [] = c.in-Some.ensures.cases.0 in
    elim c.if-self-2.branch [
      | then-self-2 v ↦ has_taken_cr taken bytes c.in-Some.front.now last old new h no_lf split refl len v.if-self-2.true (eqb-true last 13 v.if-self-2.true) (rw v.text-is at scanned)
      | else-self-2 v ↦ has_taken_text taken bytes c.in-Some.front.now last old new h no_lf split refl len v.if-self-2.false (rw v.text-is at scanned)
    ]
