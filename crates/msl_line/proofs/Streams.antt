-- Workers whose outcomes are among others make streams that those can make.
use Rattle.std.proofs.Common.{◌≡◌, ℕ, zero, suc, List, [], ◌∷◌, inl, inr}
use Rattle.std.specs.Prelude.{replicate}
use Rattle.msl_base.specs.Streams.{Record, Outcome, Stream, Trial, AllTrue, Pointwise, Unordered, pointwise}
use Rattle.msl_base.proofs.StreamLaws.{Is, is_the_function}
use Rattle.msl_stage.specs.Lines.{AnyOf}

module _ (one more : Record → Outcome → Type 0) (wider : (x : Record) (r : Outcome) → one x r → more x r) where
  all_wider : (ts : List Trial) → AllTrue one ts → AllTrue more ts
  all_wider [] a = tt
  all_wider (t ∷ ts) a = (wider t.0 t.1 a.0, all_wider ts a.1)

  pub wider_pointwise : (X Y : Stream) → Pointwise one X Y → Pointwise more X Y
  wider_pointwise X Y h =
      record { trials = h.trials; rest = h.rest; all = all_wider h.trials h.all; from = h.from; to = h.to; ends = h.ends }

  pub wider_unordered : (X Y : Stream) → Unordered one X Y → Unordered more X Y
  wider_unordered X Y h =
      record { trials = h.trials; order = h.order; rest = h.rest; all = all_wider h.trials h.all; reordered = h.reordered; from = h.from; to = h.to; ends = h.ends }

-- each record's only outcome makes the stream
pub only_stream : (one : Record → Outcome → Type 0) (f : Record → Outcome) → ((x : Record) (r : Outcome) → one x r → r ≡ f x) → (X Y : Stream) → Pointwise one X Y → Y ≡ pointwise f X
only_stream one f only X Y h = (is_the_function f X Y).0 (wider_pointwise one (Is f) only X Y h)

-- equal workers do what one does
pub any_alike : {O : Type 0} (one : O → Record → Outcome → Type 0) (w : O) (n : ℕ) (x : Record) (r : Outcome) → AnyOf one (replicate n w) x r → one w x r
any_alike one w zero x r h = absurd h
any_alike one w (suc n) x r (inl h) = h
any_alike one w (suc n) x r (inr h) = any_alike one w n x r h
