-- What is said of a run of a script's file.
use Rattle.std.proofs.Common.{arith, ◌≡◌, ℕ, suc, zero, ◌⊎◌, ◌<◌, ◌≤◌, ◌+◌, List, length, replicate, le-leb, ap, sym, subst, Option, Some, None, Result, Ok, Err, inl, inr, [], append-nil, refl, ◌∙◌}
use Rattle.std.specs.Prelude.{IsSomeAnd, MatchBool}
use Rattle.std.specs.Io.KnownBytes.{Appends, Keeps}
use Rattle.std.proofs.KnownBytes.{Appends-kept}
use Rattle.std.proofs.lemmas.Bool.{lt-leb}
use Rattle.std.proofs.lemmas.List.{length-replicate}
use Rattle.msl_base.specs.Streams.{Stream}
use Rattle.msl_base.specs.declared.fault.End.{End}
use Rattle.msl_base.specs.declared.limits.TheConstants.{MOST_SCRIPT_BYTES}
use Rattle.msl_io.specs.Fetching.{FileIs, IsLonger}
use Rattle.msl_io.specs.Text.{AppendsPart}
use Rattle.msl_read.specs.Reading.{Refusal}
use Rattle.msl_program.specs.Script.{Script}
use Rattle.msl_program.specs.Need.{need}
use Rattle.msl_program.specs.Runs.{RunsMain, SeqRuns}
use Rattle.msl_grammar.specs.ScriptGrammar.{ReadsAs, ReadsTo}
use Rattle.msl_grammar.proofs.Texts.{computed}
use Rattle.msl_stage.specs.Endings.{Ends, RanTold as EndedTold}
use Rattle.msl_run.specs.declared.status.Status.{Status}
use Rattle.msl_run.specs.declared.status.Status.TheVariants.{Done, Usage, Library, ScriptLong, Script as Refused, Need, Stream as Faulted, Read, Write, Memory}
use Rattle.msl_run.specs.Causes.{Causes, Rises, Count}
use Rattle.msl_run.specs.Headline.{end_of}
use Rattle.msl_run.specs.Scripts.{IsPlanned, IsScriptOf}
use Rattle.msl_run.specs.Statuses.{Flushed, IsComplete}
use Rattle.msl_demo_laws.specs.Demo.{DemoGives}
use Rattle.msl_run.specs.TopCall.{By, ByGiven, Checks, Demonstrates, GaveUp, HasScript, IsRunnable, IsServed, IsUntouched, OfCommand, OfFile, OfReading, OfText, Runs, WithNeed, Writes, Wrote}
use Rattle.msl_demo.specs.declared.script.TheConstants.{DEMO_NEED}
use Rattle.msl_words.specs.declared.command_line.Command.{Command}
use Rattle.msl_words.specs.declared.command_line.Command.TheVariants.{Seq, Rounds, Check, Demo}

-- ---- a file

module _ (says : Script → Ends → Status → Type 0) (text : List ℕ) (e : Ends) (status : Status) where
  abbrev HasReading : Type 0
  HasReading = (r : Result Script Refusal) × ReadsTo text r × OfReading says r e status

  abbrev IsLong : Type 0
  IsLong = (status ≡ ScriptLong) × IsUntouched e

  short_text : length text ≤ MOST_SCRIPT_BYTES → HasReading → OfText says text e status
  short_text short h = subst (λ b. MatchBool b HasReading IsLong) (sym (le-leb (length text) MOST_SCRIPT_BYTES short)) h

  pub of_short_text : length text ≤ MOST_SCRIPT_BYTES → OfText says text e status → HasReading
  of_short_text short h = subst (λ b. MatchBool b HasReading IsLong) (le-leb (length text) MOST_SCRIPT_BYTES short) h

  long_text : MOST_SCRIPT_BYTES < length text → IsLong → OfText says text e status
  long_text long h = subst (λ b. MatchBool b HasReading IsLong) (sym (lt-leb (length text) MOST_SCRIPT_BYTES long)) h

module _ (says : Script → Ends → Status → Type 0) where
  -- a file that gives a script
  pub with_script : (file : Option (List ℕ)) (s : Script) (e : Ends) (status : Status) → IsScriptOf file (Ok s) → says s e status → OfFile says file e status
  with_script file s e status (text, is, (short, reads)) h = inr (text, is, short_text says text e status short (Ok s, reads, h))

  -- a file that gives none
  pub without_script : (file : Option (List ℕ)) (e : Ends) (status : Status) → IsScriptOf file (Err status) → IsUntouched e → OfFile says file e status
  without_script file e ScriptLong (text, is, long) same = inr (text, is, long_text says text e ScriptLong long (refl, same))
  without_script file e (Refused kind at) (text, is, (short, refused)) same = inr (text, is, short_text says text e (Refused kind at) short (Err (kind, at), refused, (refl, same)))
  without_script file e Library (text, is, why) same = inl (inl refl, same)
  without_script file e Memory (text, is, why) same = inl (inr refl, same)
  without_script file e (Need needed have) (text, is, why) same = absurd why
  without_script file e Done (text, is, why) same = absurd why
  without_script file e (Faulted f) (text, is, why) same = absurd why
  without_script file e Read (text, is, why) same = absurd why
  without_script file e Write (text, is, why) same = absurd why
  without_script file e Usage (text, is, why) same = absurd why

-- ---- what was fetched

some_text : (file : Option (List ℕ)) → (text : List ℕ) × FileIs file text
some_text None = ([], tt)
some_text (Some text) = (text, refl)

longer : (n : ℕ) → (text : List ℕ) × (n < length text)
longer n = (replicate (n + 1) 0, omega (arith, length-replicate {A = ℕ} (n + 1) 0))

pub of_long : (file : Option (List ℕ)) → IsLonger file MOST_SCRIPT_BYTES → IsScriptOf file (Err ScriptLong)
of_long None h = let l = longer MOST_SCRIPT_BYTES in (l.0, tt, l.1)
of_long (Some text) h = (text, refl, h)

pub not_fetched : (file : Option (List ℕ)) → IsScriptOf file (Err Library) × IsScriptOf file (Err Memory)
not_fetched file = let t = some_text file in ((t.0, t.1, tt), (t.0, t.1, tt))

-- ---- how many processes there are

module _ (needed have : ℕ) (says : Ends → Status → Type 0) (e : Ends) (status : Status) where
  abbrev TooFew : Type 0
  TooFew = (status ≡ Need needed have) × IsUntouched e

  pub enough : needed ≤ have → says e status → WithNeed needed have says e status
  enough served h = subst (λ b. MatchBool b (says e status) TooFew) (sym (le-leb needed have served)) h

  pub too_few : have < needed → TooFew → WithNeed needed have says e status
  too_few few h = subst (λ b. MatchBool b (says e status) TooFew) (sym (lt-leb needed have few)) h

  pub of_enough : needed ≤ have → WithNeed needed have says e status → says e status
  of_enough served h = subst (λ b. MatchBool b (says e status) TooFew) (le-leb needed have served) h

-- a plan was refused
pub unplanned : (P : Type 0) (s : Script) (have : ℕ) (says : Ends → Status → Type 0) (e : Ends) (status : Status) → IsPlanned {P = P} s have (Err status) → IsUntouched e → says e Memory → WithNeed (need s) have says e status
unplanned P s have says e (Need needed there) (few, is, same) untouched starved = too_few (need s) have says e (Need needed there) few (ap (λ n. Need n there) is ∙ ap (Need (need s)) same, untouched)
unplanned P s have says e Memory served untouched starved = enough (need s) have says e Memory served starved
unplanned P s have says e Done why untouched starved = absurd why
unplanned P s have says e Usage why untouched starved = absurd why
unplanned P s have says e Library why untouched starved = absurd why
unplanned P s have says e ScriptLong why untouched starved = absurd why
unplanned P s have says e (Refused kind at) why untouched starved = absurd why
unplanned P s have says e (Faulted f) why untouched starved = absurd why
unplanned P s have says e Read why untouched starved = absurd why
unplanned P s have says e Write why untouched starved = absurd why

-- where no number was given nothing is asked
pub given : (have : ℕ) (says : Script → Ends → Status → Type 0) (s : Script) (e : Ends) (status : Status) → (have < 1) ⊎ (need s ≤ have) → says s e status → ByGiven have says s e status
given zero says s e status so h = h
given (suc k) says s e status (inl none) h = absurd (omega (arith, none))
given (suc k) says s e status (inr served) h = enough (need s) (suc k) (says s) e status served h

pub given_few : (have : ℕ) (says : Script → Ends → Status → Type 0) (s : Script) (e : Ends) → 0 < have → have < need s → IsUntouched e → ByGiven have says s e (Need (need s) have)
given_few zero says s e some few untouched = absurd (omega (arith, some))
given_few (suc k) says s e some few untouched = too_few (need s) (suc k) (says s) e (Need (need s) (suc k)) few (refl, untouched)

-- ---- what is written

pub wrote_as : (P Q : List ℕ → Type 0) → ((text : List ℕ) → P text → Q text) → (held now : Option (List ℕ)) (status : Status) → Wrote P held now status → Wrote Q held now status
wrote_as P Q so held now Done (text, is, h) = (text, so text is, h)
wrote_as P Q so held now Write (text, is, h) = (text, so text is, h)
wrote_as P Q so held now Memory h = h
wrote_as P Q so held now Usage h = absurd h
wrote_as P Q so held now Library h = absurd h
wrote_as P Q so held now ScriptLong h = absurd h
wrote_as P Q so held now (Refused kind at) h = absurd h
wrote_as P Q so held now (Need needed have) h = absurd h
wrote_as P Q so held now (Faulted f) h = absurd h
wrote_as P Q so held now Read h = absurd h

-- all was written, and then flushed or not
pub wrote_flushed : (P : List ℕ → Type 0) (text : List ℕ) → P text → (held mid now : Option (List ℕ)) (status : Status) (before after : ℕ) → Appends held mid text → Keeps mid now → Flushed status before after → Wrote P held now status
wrote_flushed P text is held mid now status before after h same (inl done) = subst (Wrote P held now) (sym done.0) (text, is, Appends-kept held mid now text h same)
wrote_flushed P text is held mid now status before after h same (inr failed) = subst (Wrote P held now) (sym failed.0) (text, is, (text, [], sym (append-nil text), Appends-kept held mid now text h same))

pub wrote_part : (P : List ℕ → Type 0) (text : List ℕ) → P text → (held now : Option (List ℕ)) → AppendsPart held now text → Wrote P held now Write
wrote_part P text is held now (front, back, parts, some, h) = (text, is, (front, back, parts, h))

-- ---- completeness

module _ (lib src out : Count) (l : Rises lib → ⊥) (r : Rises src → ⊥) (w : Rises out → ⊥) where
  -- where no count rose, a run that began is complete
  ran_complete : (P : End → Type 0) (status : Status) → Causes status lib src out → IsSomeAnd (end_of status) P → IsComplete status
  ran_complete P Done cause ran = tt
  ran_complete P (Faulted f) cause ran = tt
  ran_complete P Memory cause ran = tt
  ran_complete P Read cause ran = absurd (r cause.1.0)
  ran_complete P Write cause ran = absurd (w cause.1.1)
  ran_complete P Library cause ran = absurd ran
  ran_complete P Usage cause ran = absurd ran
  ran_complete P ScriptLong cause ran = absurd ran
  ran_complete P (Refused kind at) cause ran = absurd ran
  ran_complete P (Need needed have) cause ran = absurd ran

  wrote_complete : (P : List ℕ → Type 0) (held now : Option (List ℕ)) (status : Status) → Causes status lib src out → Wrote P held now status → IsComplete status
  wrote_complete P held now Done cause wrote = tt
  wrote_complete P held now Memory cause wrote = tt
  wrote_complete P held now Write cause wrote = absurd (w cause.1.1)
  wrote_complete P held now Usage cause wrote = absurd wrote
  wrote_complete P held now Library cause wrote = absurd wrote
  wrote_complete P held now ScriptLong cause wrote = absurd wrote
  wrote_complete P held now (Refused kind at) cause wrote = absurd wrote
  wrote_complete P held now (Need needed have) cause wrote = absurd wrote
  wrote_complete P held now (Faulted f) cause wrote = absurd wrote
  wrote_complete P held now Read cause wrote = absurd wrote

  module _ (e : Ends) (status : Status) (cause : Causes status lib src out) where
    gave_up_complete : GaveUp e status → IsComplete status
    gave_up_complete (inl is, same) = absurd (l (subst (λ s. Causes s lib src out) is cause).0)
    gave_up_complete (inr is, same) = subst IsComplete (sym is) tt

    run_complete : (means : Script → Stream → Stream → Type 0) (s : Script) → Runs means s e status → IsComplete status
    run_complete means s ran = ran_complete (EndedTold (means s) e) status cause ran

    writes_complete : (P : List ℕ → Type 0) → Writes P e status → IsComplete status
    writes_complete P writes = wrote_complete P e.held e.held_now status cause writes.1

    given_complete : (have : ℕ) (s : Script) → IsServed have s → ByGiven have Checks s e status → IsComplete status
    given_complete zero s served checks = writes_complete _ checks
    given_complete (suc k) s served checks = writes_complete _ (of_enough (need s) (suc k) (Checks s) e status served checks)

    -- a file with a script of which P holds
    of_script : (says : Script → Ends → Status → Type 0) (P : Script → Type 0) (file : Option (List ℕ)) → HasScript P file → ((s : Script) → P s → says s e status → IsComplete status) → OfFile says file e status → IsComplete status
    of_script says P file (text, s, told, short, reads, p) so (inl gave) = gave_up_complete gave
    of_script says P file (text, s, told, short, reads, p) so (inr (other, is, h)) =
        let same = subst (λ (o : Option (List ℕ)). FileIs o other) told is in
        let r = of_short_text says text e status short (subst (λ t. OfText says t e status) same h) in
        so s p (subst (λ t. OfReading says t e status) (sym (computed r.1) ∙ computed reads) r.2)

    pub complete : (command : Option Command) (file : List ℕ → Option (List ℕ)) → OfCommand command file e status → IsRunnable command file → IsComplete status
    complete None file ran runnable = absurd runnable
    complete (Some (Seq name)) file ran runnable = of_script (Runs SeqRuns) _ (file name) runnable (λ s p. run_complete SeqRuns s) ran
    complete (Some (Rounds name have)) file ran runnable = of_script (By have (Runs RunsMain)) _ (file name) runnable (λ s p h. run_complete RunsMain s (of_enough (need s) have (Runs RunsMain s) e status p h)) ran
    complete (Some (Check name have)) file ran runnable = of_script (ByGiven have Checks) _ (file name) runnable (λ s p. given_complete have s p) ran
    complete (Some (Demo records have)) file (inl (is, same)) runnable = subst IsComplete (sym is) tt
    complete (Some (Demo records have)) file (inr ran) runnable = writes_complete (DemoGives records) (of_enough DEMO_NEED have (Demonstrates records) e status runnable ran)
