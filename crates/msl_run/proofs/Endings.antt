-- The endings of a run, and the statuses that tell them.
use Rattle.std.proofs.Common.{◌≡◌, ℕ, List, [], sym, refl, subst, Option, Some}
use Rattle.std.specs.Prelude.{IsSomeAnd}
use Rattle.std.proofs.KnownBytes.{Appends-nil}
use Rattle.msl_base.specs.Streams.{Stream}
use Rattle.msl_base.specs.declared.fault.End.{End}
use Rattle.msl_base.specs.declared.fault.End.TheVariants as run
use Rattle.msl_io.specs.Lines.{reads}
use Rattle.msl_io.proofs.Told.{told_map, told_same}
use Rattle.msl_program.specs.Script.{Script}
use Rattle.msl_program.specs.Fitting.{IsWhole}
use Rattle.msl_program.specs.Runs.{seq_run}
use Rattle.msl_program.proofs.SeqLaws.{seq_run_is}
use Rattle.msl_line.specs.declared.how.How.{How}
use Rattle.msl_line.specs.declared.how.How.TheVariants.{InTurn, Beside}
use Rattle.msl_line.specs.Lines.{Means}
use Rattle.msl_stage.specs.Endings.{Ends, Ran, RanTold as EndedTold, ends}
use Rattle.msl_run.specs.Headline.{RanTold, end_of}
use Rattle.msl_run.specs.declared.status.Status.{Status}
use Rattle.msl_run.specs.declared.status.Status.TheVariants.{Memory}

-- ---- what is made of a stream, by a relation that holds more often

module _ (A B : Stream → Stream → Type 0) (wider : (X Y : Stream) → A X Y → B X Y) where
  wider_ran : (input left written : List ℕ) (end : End) → Ran A input left written end → Ran B input left written end
  wider_ran input left written run.Done (records, means, wrote, none) = (records, wider _ _ means, wrote, none)
  wider_ran input left written (run.Fault fault) (records, means, wrote) = (records, wider _ _ means, wrote)
  wider_ran input left written run.Read (records, taken, split, means, wrote) = (records, taken, split, wider _ _ means, wrote)
  wider_ran input left written run.Write (records, ending, rest, means, front) = (records, ending, rest, wider _ _ means, front)
  wider_ran input left written run.Memory (records, others, ending, means, wrote) = (records, others, ending, wider _ _ means, wrote)
  wider_ran input left written run.Stopped h = absurd h

  wider_told : (e : Ends) (end : End) → EndedTold A e end → EndedTold B e end
  wider_told e end h = record {
    ending = h.ending;
    grew = h.grew;
    ran = told_map e.left e.left_now h.ran (λ x y r. (r.0, (r.1.0, r.1.1, wider_ran x y r.1.0 end r.1.2)));
  }

-- ---- a status that tells an ending

pub is_ran : (status : Status) (end : End) → end_of status ≡ Some end → (A B : Stream → Stream → Type 0) (e : Ends) → ((X Y : Stream) → A X Y → B X Y) → EndedTold A e end → RanTold B e status
is_ran status end is A B e wider h = subst (λ o. IsSomeAnd o (EndedTold B e)) (sym is) (wider_told A B wider e end h)

-- ---- memory that runs out before a run

-- the order of `seq` is always one that is meant
means_seq : {R : Type 0} (how : How R) (s : Script) → IsWhole s → (X : Stream) → Means how s X (seq_run s 1 s.main X)
means_seq InTurn s whole X = refl
means_seq (Beside rt) s whole X = seq_run_is s 1 s.main whole X

pub starved : {R : Type 0} (how : How R) (s : Script) → IsWhole s → (left held : Option (List ℕ)) → RanTold (Means how s) (ends left left held held) Memory
starved how s whole left held = record {
  ending = tt;
  grew = ([], Appends-nil held, tt);
  ran = told_same _ left (λ x. let Y = seq_run s 1 s.main (reads x) in (([], refl), ([], Appends-nil held, ([], Y.records, Y.ending, means_seq how s whole (reads x), refl))));
}
