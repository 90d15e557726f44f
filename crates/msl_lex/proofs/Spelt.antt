-- The tokens of a text are spelt.
use Rattle.std.proofs.Common.{ℕ, List, Result, Ok, Err}
use Rattle.msl_lex.specs.declared.token.LexFault.{LexFault}
use Rattle.msl_lex.specs.declared.token.TokenKind.{TokenKind}
use Rattle.msl_lex.specs.declared.token.TokenKind.TheVariants.{Word, Number, Sign, Close}
use Rattle.msl_lex.specs.Layout.{IsInLimits, spells, ReadsAs, ends, goes, stops}
use Rattle.msl_lex.specs.Lexemes.{Lexeme, form_of, with_first}
use Rattle.std.proofs.Common.{IsTrue}
use Rattle.msl_lex.specs.Spelling.{IsSpelt, AreSpelt}

abbrev pub AllSpelt : Result (List Lexeme) LexFault → Type 0
AllSpelt (Ok ts) = AreSpelt ts
AllSpelt (Err e) = Unit {0}

one_spelt : (k : TokenKind) (s : List ℕ) → IsTrue (spells k s) → IsInLimits k s → IsSpelt (form_of k s)
one_spelt Word s h l = (h, l)
one_spelt Number s h l = l
one_spelt Sign s h l = tt
one_spelt Close s h l = tt

first_spelt : (t : Lexeme) (r : Result (List Lexeme) LexFault) → IsSpelt t.form → AllSpelt r → AllSpelt (with_first t r)
first_spelt t (Ok ts) h hs = (h, hs)
first_spelt t (Err e) h hs = tt

pub of_layout : (at : ℕ) (text : List ℕ) (r : Result (List Lexeme) LexFault) → ReadsAs at text r → AllSpelt r
of_layout _ _ _ (ends at end gap h is) = (tt, tt)
of_layout _ _ _ (goes at from to k gap s rest others h is longest limits is_to reads) = first_spelt _ others (one_spelt k s longest.is_one limits) (of_layout to rest others reads)
of_layout _ _ _ (stops at from gap after fault h is is_fault) = tt
