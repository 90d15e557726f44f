-- What is left of the tokens behind what was read.
use Rattle.std.proofs.Common.{◌≡◌, ◌≤◌, ◌<◌, ◌+◌, ◌-◌, ℕ, suc, Bool, true, false, if◌then◌else◌, List, [], ◌∷◌, length, drop, Option, Some, None, Result, Ok, refl, ap, subst, ◌∙◌, arith, length-drop}
use Rattle.std.proofs.lemmas.List.{drop-drop}
use Rattle.msl_lex.specs.declared.kind.Kind.TheVariants.{Many}
use Rattle.msl_lex.specs.Lexemes.{Lexeme}
use Rattle.msl_fun.specs.declared.funs.Fun.{Fun}
use Rattle.msl_base.specs.Names.{Text}
use Rattle.msl_read.specs.Reading.{Refusal, test, takes, ends, stops, ahead, failing, or_refusal, moved}
use Rattle.msl_fun_read.specs.Grammar.{State, Turn, fun, fun_name, done, on, reading, read_fun}

-- an end of a list
pub record IsEnd (ts rest : List Lexeme) : Type 0 where
  pub shorter : length rest ≤ length ts
  pub end : rest ≡ drop (length ts - length rest) ts

whole : (ts : List Lexeme) → IsEnd ts ts
whole ts = let none : 0 ≡ length ts - length ts = omega arith in record { shorter = omega arith; end = ap (λ n. drop n ts) none }

one_before : (t : Lexeme) (ts rest : List Lexeme) → IsEnd ts rest → IsEnd (t ∷ ts) rest
one_before t ts rest h =
    let less = h.shorter in
    let e : suc (length ts - length rest) ≡ length (t ∷ ts) - length rest = omega arith in
    record { shorter = omega arith; end = h.end ∙ ap (λ n. drop n (t ∷ ts)) e }

module _ (funs : List Fun) (others : List Text) where
  module _ (t : Lexeme) (ts : List Lexeme) (f : Fun) (rest : List Lexeme) (later : (s : State) → reading funs others ts s ≡ Ok (f, rest) → IsEnd ts rest) where
    behind_tests : (r : Option Refusal) (s : State) → or_refusal r (reading funs others ts s) ≡ Ok (f, rest) → IsEnd (t ∷ ts) rest
    behind_tests (Some r) s h = cc
    behind_tests None s h = one_before t ts rest (later s h)

    behind_move : (m : Turn) → moved m t ts (reading funs others ts) ≡ Ok (f, rest) → IsEnd (t ∷ ts) rest
    behind_move (takes due s) h = behind_tests (failing due) s h
    behind_move (ends w) h =
        let pair : ◌≡◌ {A = Fun × List Lexeme} (w, t ∷ ts) (f, rest) = cc in
        subst (IsEnd (t ∷ ts)) (ap (λ (p : Fun × List Lexeme). p.1) pair) (whole (t ∷ ts))
    behind_move stops h = cc

  -- what is left is an end of what there was
  pub left_over : (ts : List Lexeme) (s : State) (f : Fun) (rest : List Lexeme) → reading funs others ts s ≡ Ok (f, rest) → IsEnd ts rest
  left_over [] s f rest h = cc
  left_over (t ∷ ts) s f rest h = behind_move t ts f rest (λ s h. left_over ts s f rest h) (on funs others s t (ahead t ts)) h

  -- where all was read
  pub all_read : (ts : List Lexeme) (f : Fun) → 1 ≤ length ts → reading funs others ts (done f) ≡ Ok (f, ts)
  all_read [] f h = absurd (omega arith)
  all_read (t ∷ ts) f h = refl

  module _ (t : Lexeme) (ts : List Lexeme) (f : Fun) (rest : List Lexeme) (behind : State → Result (Fun × List Lexeme) Refusal) where
    begun : (begins few : Bool) → moved (if begins then takes (test Many t.at few ∷ []) fun_name else stops) t ts behind ≡ Ok (f, rest) → behind fun_name ≡ Ok (f, rest)
    begun false few h = cc
    begun true false h = cc
    begun true true h = h

  -- a function has a token
  pub some_read : (ts : List Lexeme) (f : Fun) (rest : List Lexeme) → read_fun funs others ts ≡ Ok (f, rest) → length rest < length ts
  some_read [] f rest h = cc
  some_read (t ∷ ts) f rest h =
      let less = (left_over ts fun_name f rest (begun t ts f rest (reading funs others ts) _ _ h)).shorter in
      omega (arith, less)

  -- a function that begins at a place, and the place behind it
  module _ (ts : List Lexeme) (from left : ℕ) (f : Fun) (rest : List Lexeme) (here : read_fun funs others (drop from ts) ≡ Ok (f, rest)) (is_left : length rest ≡ left) where
    pub place_behind : rest ≡ drop (length ts - left) ts
    place_behind =
        let h = left_over (drop from ts) fun f rest here in
        let less = some_read (drop from ts) f rest here in
        let e : from + (length (drop from ts) - length rest) ≡ length ts - left = omega (arith, less, is_left, length-drop from ts) in
        h.end ∙ drop-drop (length (drop from ts) - length rest) from ts ∙ ap (λ n. drop n ts) e
