-- What stands between the braces of a filter, a division and a search.
use Rattle.std.specs.Prelude.{◌+◌, ◌-◌, ◌*◌, length, codes}
use Rattle.msl_base.specs.declared.limits.TheConstants.{LEAST_PARTS, MOST_CUTOFF, MOST_PARAMS, MOST_PARTS}
use Rattle.msl_fun.specs.Meaning.{params_of, results_of}
use Rattle.msl_program.specs.declared.width.Width.TheVariants.{Any, Exactly, AtLeast, AtMost, Shared}
use Rattle.msl_program.specs.Known.{Known}
use Rattle.msl_grammar.specs.declared.filter.FilterClauses.{FilterClauses}
use Rattle.msl_grammar.specs.declared.divcon.DivConClauses.{DivConClauses}
use Rattle.msl_grammar.specs.declared.bnb.BnbClauses.{BnbClauses}
use Rattle.msl_grammar.specs.ScriptGrammar.{State, token, clause, numbered, state_numbers}

abbrev pub filter_clauses : Known → (FilterClauses → State) → State
filter_clauses m k =
    token (codes "{") (token (codes "state") (state_numbers (λ state.
    clause m (codes "count") (AtLeast (length state + 1)) (Exactly 1) (λ count.
    clause m (codes "item") (Exactly (params_of m.funs count + 1)) Any (λ item.
    clause m (codes "next") (Exactly (params_of m.funs count)) (Exactly (length state)) (λ next.
    clause m (codes "flush") (Exactly (length state)) (Exactly 1) (λ flush.
    clause m (codes "last") (Exactly (length state + 1)) Any (λ last.
    token (codes "}") (k (record { state = state; count = count; item = item; next = next; flush = flush; last = last }))))))))))

abbrev pub divcon_clauses : Known → (DivConClauses → State) → State
divcon_clauses m k =
    token (codes "{")
    (numbered (codes "parts") LEAST_PARTS MOST_PARTS (λ parts.
    numbered (codes "cutoff") 0 MOST_CUTOFF (λ cutoff.
    clause m (codes "simple") Any (Exactly 1) (λ simple.
    clause m (codes "solve") (Exactly (params_of m.funs simple)) (Shared parts) (λ solve.
    clause m (codes "divide") (Exactly (params_of m.funs simple + 1)) (Exactly (params_of m.funs simple)) (λ divide.
    clause m (codes "combine") (Exactly (parts * results_of m.funs solve)) (Exactly (results_of m.funs solve)) (λ combine.
    token (codes "}") (k (record { parts = parts; cutoff = cutoff; simple = simple; solve = solve; divide = divide; combine = combine })))))))))

abbrev pub bnb_clauses : Known → (BnbClauses → State) → State
bnb_clauses m k =
    token (codes "{")
    (clause m (codes "bound") (AtMost (MOST_PARAMS - 1)) (Exactly 1) (λ bound.
    clause m (codes "solved") (Exactly (params_of m.funs bound)) (Exactly 1) (λ solved.
    clause m (codes "value") (Exactly (params_of m.funs bound)) (Exactly 1) (λ value.
    clause m (codes "count") (Exactly (params_of m.funs bound)) (Exactly 1) (λ count.
    clause m (codes "branch") (Exactly (params_of m.funs bound + 1)) (Exactly (params_of m.funs bound)) (λ branch.
    token (codes "}") (k (record { bound = bound; solved = solved; value = value; count = count; branch = branch }))))))))
