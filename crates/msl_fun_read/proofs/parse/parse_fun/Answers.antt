use Rattle.std.proofs.Common.{◌≡◌, ◌-◌, ℕ, List, [], Ok, length, map, take, drop, ap, sym, subst, ◌∙◌}
use Rattle.std.proofs.lemmas.List.{take_rest, drop-map, length-map}
use Rattle.std.proofs.lemmas.Result.{err_from_is_err_and}
use Rattle.msl_lex.specs.declared.token.Token.{Token}
use Rattle.msl_lex.specs.Lexemes.{Lexeme, lexeme_of}
use Rattle.msl_read.specs.Front.{AreOpen}
use Rattle.msl_fun_read.specs.Grammar.{read_fun}
use Rattle.msl_read.specs.Refusals.{IsRefused}
use Rattle.msl_read.proofs.Opens.{open_from}
use Rattle.msl_fun_read.proofs.Suffixes.{place_behind}
use Rattle.msl_fun_read.proofs.parse.parse_fun.Goals as goal

-- what a cursor on the tokens from a place on sees
seen_from : (text : List ℕ) (toks slice : List Token) (from : ℕ) (seen : List Lexeme) → slice ≡ toks → seen ≡ map (lexeme_of text) (take (length slice - from) (drop from slice)) → seen ≡ drop from (map (lexeme_of text) toks)
seen_from text toks slice from seen same h =
    h ∙ ap (map (lexeme_of text)) (take_rest slice from) ∙ ap (λ ts. map (lexeme_of text) (drop from ts)) same ∙ sym (drop-map (lexeme_of text) from toks)

pub new-requires : goal.new-requires
new-requires c =
    let text = c.args.text.now in
    let from = c.args.from in
    record { «open» = rw (take_rest c.as_slice-toks.result.now from) (subst (λ ts. AreOpen text (drop from ts)) (sym c.as_slice-toks.ensures) (open_from text c.args.toks.now from c.requires.tokens c.requires.from)) }

pub returns-in_err-fun-clause-read : goal.returns-in_err-fun-clause-read
returns-in_err-fun-clause-read c =
    let seen = seen_from c.args.text.now c.args.toks.now c.as_slice-toks.result.now c.args.from c.new.result c.as_slice-toks.ensures c.new.ensures in
    let p = err_from_is_err_and c.from_residual.result c.from_residual.ensures.1 in
    rw (p.1, p.2) (subst (λ ts. IsRefused (read_fun c.args.funs.now [] ts) c.in_err-fun.field-0.0) seen c.in_err-fun.ensures.read)

pub returns-clause-read : goal.returns-clause-read
returns-clause-read c =
    let funs = c.args.funs.now in
    let toks = map (lexeme_of c.args.text.now) c.args.toks.now in
    let f = c.in_ok-fun.fun in
    let rest = c.in_ok-fun.rest in
    let left = c.len.result in
    let seen = seen_from c.args.text.now c.args.toks.now c.as_slice-toks.result.now c.args.from c.new.result c.as_slice-toks.ensures c.new.ensures in
    let here = subst (λ ts. read_fun funs [] ts ≡ Ok (f, rest)) seen c.in_ok-fun.ensures.read in
    let long : length toks ≡ length c.as_slice-toks.result.now = length-map c.args.toks.now (lexeme_of c.args.text.now) ∙ ap length (sym c.as_slice-toks.ensures) in
    here
    ∙ ap (λ ts. Ok (f, ts)) (place_behind funs [] toks c.args.from left f rest here (sym c.len.ensures.len))
    ∙ ap (λ n. Ok (f, drop (n - left) toks)) long
