use Rattle.std.proofs.Common.{◌≡◌, ◌+◌, List, [], ◌∷◌, ◌++◌, length, drop, codes, refl, ap, sym, ◌∙◌, arith, length-drop, lt-ltb}
use Rattle.std.proofs.lemmas.Result.{err_from_is_err_and}
use Rattle.msl_lex.specs.Lexemes.{Lexeme}
use Rattle.msl_fun_read.specs.declared.parse.level.Level.{Level}
use Rattle.msl_fun_read.specs.declared.parse.level.Level.TheVariants as level
use Rattle.msl_fun.specs.Shapes.{binary, minus, opposite}
use Rattle.msl_base.specs.Names.{Text}
use Rattle.msl_read.specs.Front.{form, form_behind}
use Rattle.msl_fun_read.specs.Grammar.{Tree, expr, operand, more, arguments, call_rest, choice_rest, binding_rest, looping_rest, pair_rest, second_operand, grown, over_one, over_two, reading}
use Rattle.msl_read.specs.Front.{number_in}
use Rattle.msl_fun_read.specs.Parsing.{context, expr_before, curried}
use Rattle.msl_fun_read.specs.Binding.{names_in}
use Rattle.msl_fun_read.specs.Calls.{callee_of}
use Rattle.msl_read.proofs.Parts.{refused_along}
use Rattle.msl_fun_read.proofs.Descent.{first_at, expr_if, expr_let, expr_loop, expr_operand, operand_tighter, more_ends, more_goes, unary_minus, unary_not, unary_pair, unary_parenthesis, unary_call, unary_number, one_argument_more}
use Rattle.msl_fun_read.proofs.Fitting.{tree_minus, tree_opposite, tree_binary, tree_choice, tree_binding, tree_looping, trees_more, fits_number, no_arguments}
use Rattle.msl_fun_read.proofs.Bindings.{left_all}
use Rattle.msl_fun_read.proofs.Rules.{taken, refused, before_1, two_1, two_2, pair_1, pair_2, choice_1, choice_2, binding_1, binding_2, looping_1, looping_2, looping_3, looping_4, read_from, keeps_from, keeps_by, variable_read, variable_keeps, callee_refused, is_number, call_fits, begins, grown_more, some_left, room_for_two}
use Rattle.msl_fun_read.proofs.parse.declared.Declared.+expression.Goals as goal

-- as many tokens
len : (xs ys : List Lexeme) → xs ≡ ys → length xs ≡ length ys
len xs ys p = ap (λ (ts : List Lexeme). length ts) p

-- ---- an expression

pub expr-returns-in-If-clause-reads : goal.expr-returns-in-If-clause-reads
expr-returns-in-If-clause-reads t c =
    let F = c.args.self.now.funs.now in
    let O = c.args.self.now.others.now in
    let d = c.args.d.now in
    let x = context d.scope c.args.opened in
    let deeper = context d.scope (c.args.opened + 1) in
    read_from F O d.cursor (drop 1 d.cursor) (expr x d.names) (choice_rest deeper d.names) c.choice.new.d c.choice.result (λ k. expr_if F O x d.names k d.cursor (sym c.of-first.ensures ∙ c.in-If.is) (lt-ltb c.args.opened 256 c.if-opened-ge-MOST_OPENED.false)) c.choice.ensures.reads

pub expr-returns-in-Let-clause-reads : goal.expr-returns-in-Let-clause-reads
expr-returns-in-Let-clause-reads t c =
    let F = c.args.self.now.funs.now in
    let O = c.args.self.now.others.now in
    let d = c.args.d.now in
    let x = context d.scope c.args.opened in
    let deeper = context d.scope (c.args.opened + 1) in
    read_from F O d.cursor (drop 1 d.cursor) (expr x d.names) (binding_rest deeper d.names) c.binding.new.d c.binding.result (λ k. expr_let F O x d.names k d.cursor (sym c.of-first.ensures ∙ c.in-Let.is) (lt-ltb c.args.opened 256 c.if-opened-ge-MOST_OPENED.false)) c.binding.ensures.reads

pub expr-returns-in-Loop-clause-reads : goal.expr-returns-in-Loop-clause-reads
expr-returns-in-Loop-clause-reads t c =
    let F = c.args.self.now.funs.now in
    let O = c.args.self.now.others.now in
    let d = c.args.d.now in
    let x = context d.scope c.args.opened in
    let deeper = context d.scope (c.args.opened + 1) in
    read_from F O d.cursor (drop 1 d.cursor) (expr x d.names) (looping_rest deeper d.names) c.looping.new.d c.looping.result (λ k. expr_loop F O x d.names k d.cursor (sym c.of-first.ensures ∙ c.in-Loop.is) (lt-ltb c.args.opened 256 c.if-opened-ge-MOST_OPENED.false)) c.looping.ensures.reads

pub expr-returns-in_default-first-clause-reads : goal.expr-returns-in_default-first-clause-reads
expr-returns-in_default-first-clause-reads t c =
    let F = c.args.self.now.funs.now in
    let O = c.args.self.now.others.now in
    let d = c.args.d.now in
    let x = context d.scope c.args.opened in
    let deeper = context d.scope (c.args.opened + 1) in
    let h = c.in_default-first in
    read_from F O d.cursor d.cursor (expr x d.names) (operand level.Or deeper d.names) c.operation.new.d c.operation.result (λ k. expr_operand F O x d.names k d.cursor (begins (first_at d.cursor) (λ e. h.not-If (c.of-first.ensures ∙ e)) (λ e. h.not-Let (c.of-first.ensures ∙ e)) (λ e. h.not-Loop (c.of-first.ensures ∙ e)) (λ e. c.in_default.not-Nothing (c.of-first.ensures ∙ e))) (lt-ltb c.args.opened 256 c.if-opened-ge-MOST_OPENED.false)) c.operation.ensures.reads

-- ---- an expression and a token

pub expr_before-returns-in_err-e-clause-reads : goal.expr_before-returns-in_err-e-clause-reads
expr_before-returns-in_err-e-clause-reads t c =
    let out = err_from_is_err_and c.from_residual.result c.from_residual.ensures.1 in
    let w = c.args.text.now in
    rw (out.1, out.2) (λ k. c.in_err-e.ensures.reads (before_1 w k))

pub expr_before-returns-in_err-expect-clause-reads : goal.expr_before-returns-in_err-expect-clause-reads
expr_before-returns-in_err-expect-clause-reads t c =
    let F = c.args.self.now.funs.now in
    let O = c.args.self.now.others.now in
    let out = err_from_is_err_and c.from_residual-in_err-expect.result c.from_residual-in_err-expect.ensures.1 in
    let w = c.args.text.now in
    let p = c.in_ok-e.ensures in
    let e = c.in_err-expect.field-0.0 in
    rw (out.1, out.2) (λ k. refused_along _ _ e (p.reads (before_1 w k)) (refused F O c.expr.new.d.cursor w (k (c.expr.new.d.names, c.in_ok-e.e)) e c.in_err-expect.ensures))

pub expr_before-returns-clause-reads : goal.expr_before-returns-clause-reads
expr_before-returns-clause-reads t c =
    let F = c.args.self.now.funs.now in
    let O = c.args.self.now.others.now in
    let w = c.args.text.now in
    let p = c.in_ok-e.ensures in
    λ k. p.reads (before_1 w k) ∙ taken F O c.expr.new.d.cursor c.expect.new.self w (k (c.expr.new.d.names, c.in_ok-e.e)) c.in_ok-expect.ensures

-- ---- two expressions

pub two-returns-in_err-a-clause-reads : goal.two-returns-in_err-a-clause-reads
two-returns-in_err-a-clause-reads t c =
    let d = c.args.d.now in
    let x = context d.scope c.args.opened in
    let out = err_from_is_err_and c.from_residual.result c.from_residual.ensures.1 in
    rw (out.1, out.2) (λ k. c.in_err-a.ensures.reads (two_1 x k))

pub two-returns-in_err-b-clause-reads : goal.two-returns-in_err-b-clause-reads
two-returns-in_err-b-clause-reads t c =
    let d = c.args.d.now in
    let x = context d.scope c.args.opened in
    let out = err_from_is_err_and c.from_residual-in_err-b.result c.from_residual-in_err-b.ensures.1 in
    let p = c.in_ok-a.ensures in
    rw (out.1, out.2) (λ k. refused_along _ _ c.in_err-b.field-0.0 (p.reads (two_1 x k)) ((rw p.keeps.scope at c.in_err-b.ensures.reads) (two_2 c.in_ok-a.a k)))

pub two-returns-clause-reads : goal.two-returns-clause-reads
two-returns-clause-reads t c =
    let d = c.args.d.now in
    let x = context d.scope c.args.opened in
    let p = c.in_ok-a.ensures in
    λ k. p.reads (two_1 x k) ∙ (rw p.keeps.scope at c.in_ok-b.ensures.reads) (two_2 c.in_ok-a.a k)

pub scoped-returns-in_err-a-clause-reads : goal.scoped-returns-in_err-a-clause-reads
scoped-returns-in_err-a-clause-reads t c =
    let d = c.args.d.now in
    let out = err_from_is_err_and c.from_residual.result c.from_residual.ensures.1 in
    let y = context (d.scope ++ names_in c.args.bound) c.args.opened in
    rw (out.1, out.2) (λ k. c.in_err-a.ensures.reads (two_1 y k))

pub scoped-returns-in_err-b-clause-reads : goal.scoped-returns-in_err-b-clause-reads
scoped-returns-in_err-b-clause-reads t c =
    let d = c.args.d.now in
    let out = err_from_is_err_and c.from_residual-in_err-b.result c.from_residual-in_err-b.ensures.1 in
    let y = context (d.scope ++ names_in c.args.bound) c.args.opened in
    let p = c.in_ok-a.ensures in
    let e = c.in_ok-enter.ensures in
    let s = e.scope ∙ ap (λ (r : List Text). r ++ names_in c.args.bound) p.keeps.scope in
    rw (out.1, out.2) (λ k. refused_along _ _ c.in_err-b.field-0.0 (p.reads (two_1 y k)) ((rw (e.cursor, s, e.names) at c.in_err-b.ensures.reads) (two_2 c.in_ok-a.a k)))

pub scoped-returns-clause-reads : goal.scoped-returns-clause-reads
scoped-returns-clause-reads t c =
    let d = c.args.d.now in
    let y = context (d.scope ++ names_in c.args.bound) c.args.opened in
    let p = c.in_ok-a.ensures in
    let e = c.in_ok-enter.ensures in
    let s = e.scope ∙ ap (λ (r : List Text). r ++ names_in c.args.bound) p.keeps.scope in
    rw (c.leave.ensures.cursor, c.leave.ensures.names) (λ k. p.reads (two_1 y k) ∙ (rw (e.cursor, s, e.names) at c.in_ok-b.ensures.reads) (two_2 c.in_ok-a.a k))

pub scoped-returns-clause-keeps : goal.scoped-returns-clause-keeps
scoped-returns-clause-keeps t c =
    let d = c.args.d.now in
    let p = c.in_ok-a.ensures in
    let e = c.in_ok-enter.ensures in
    let s = e.scope ∙ ap (λ (r : List Text). r ++ names_in c.args.bound) p.keeps.scope in
    let q = c.in_ok-b.ensures.keeps in
    record {
      between = c.expr_before.new.d.names;
      first = p.keeps.fits;
      second = rw c.leave.ensures.names (rw (s, e.names) at q.fits);
      scope = c.leave.ensures.scope ∙ left_all d.scope c.expr.new.d.scope (names_in c.args.bound) (q.scope ∙ s);
      shorter = omega (arith, p.keeps.shorter, len c.enter.new.self.cursor c.expr_before.new.d.cursor e.cursor, q.shorter, len c.leave.new.self.cursor c.expr.new.d.cursor c.leave.ensures.cursor);
    }

-- ---- a choice

pub choice-returns-in_err-c-clause-reads : goal.choice-returns-in_err-c-clause-reads
choice-returns-in_err-c-clause-reads t c =
    let d = c.args.d.now in
    let x = context d.scope c.args.opened in
    let out = err_from_is_err_and c.from_residual.result c.from_residual.ensures.1 in
    rw (out.1, out.2, ← c.advance.ensures) (λ k. c.in_err-c.ensures.reads (choice_1 x k))

pub choice-returns-in_err-a-clause-reads : goal.choice-returns-in_err-a-clause-reads
choice-returns-in_err-a-clause-reads t c =
    let d = c.args.d.now in
    let x = context d.scope c.args.opened in
    let out = err_from_is_err_and c.from_residual-in_err-a.result c.from_residual-in_err-a.ensures.1 in
    let p = c.in_ok-c.ensures in
    rw (out.1, out.2, ← c.advance.ensures) (λ k. refused_along _ _ c.in_err-a.field-0.0 (p.reads (choice_1 x k)) ((rw p.keeps.scope at c.in_err-a.ensures.reads) (choice_2 c.in_ok-c.c k)))

pub choice-returns-clause-reads : goal.choice-returns-clause-reads
choice-returns-clause-reads t c =
    let d = c.args.d.now in
    let x = context d.scope c.args.opened in
    let p = c.in_ok-c.ensures in
    rw (← c.advance.ensures, c.in_ok-choice.ensures) (λ k. p.reads (choice_1 x k) ∙ (rw p.keeps.scope at c.in_ok-a.ensures.reads) (choice_2 c.in_ok-c.c k))

pub choice-returns-clause-keeps : goal.choice-returns-clause-keeps
choice-returns-clause-keeps t c =
    let F = c.args.self.now.funs.now in
    let d = c.args.d.now in
    let p = c.in_ok-c.ensures in
    let q = c.in_ok-a.ensures.keeps in
    record {
      fits = rw c.in_ok-choice.ensures (tree_choice F d.scope d.names c.expr_before.new.d.names q.between c.two.new.d.names c.in_ok-c.c c.in_ok-a.a c.in_ok-a.b p.keeps.fits (rw p.keeps.scope at q.first) (rw p.keeps.scope at q.second));
      scope = q.scope ∙ p.keeps.scope;
      shorter = omega (arith, length-drop 1 d.cursor, len c.advance.new.self (drop 1 d.cursor) c.advance.ensures, p.keeps.shorter, q.shorter);
    }

-- ---- a variable

pub binding-returns-in_err-x-clause-reads : goal.binding-returns-in_err-x-clause-reads
binding-returns-in_err-x-clause-reads t c =
    let F = c.args.self.now.funs.now in
    let O = c.args.self.now.others.now in
    let d = c.args.d.now in
    let x = context d.scope c.args.opened in
    let out = err_from_is_err_and c.from_residual.result c.from_residual.ensures.1 in
    rw (out.1, out.2, ← c.advance.ensures) (λ k. c.in_err-x.ensures F O (binding_1 x d.names k))

pub binding-returns-in_err-a-clause-reads : goal.binding-returns-in_err-a-clause-reads
binding-returns-in_err-a-clause-reads t c =
    let F = c.args.self.now.funs.now in
    let O = c.args.self.now.others.now in
    let d = c.args.d.now in
    let x = context d.scope c.args.opened in
    let out = err_from_is_err_and c.from_residual-in_err-a.result c.from_residual-in_err-a.ensures.1 in
    let h = c.in_ok-x.ensures in
    rw (out.1, out.2, ← c.advance.ensures) (λ k. refused_along _ _ c.in_err-a.field-0.0 (h.goes F O (binding_1 x d.names k)) ((rw (h.scope, h.names) at c.in_err-a.ensures.reads) (binding_2 k)))

pub binding-returns-clause-reads : goal.binding-returns-clause-reads
binding-returns-clause-reads t c =
    let F = c.args.self.now.funs.now in
    let O = c.args.self.now.others.now in
    let d = c.args.d.now in
    let x = context d.scope c.args.opened in
    let h = c.in_ok-x.ensures in
    rw (← c.advance.ensures, c.in_ok-binding.ensures) (λ k. h.goes F O (binding_1 x d.names k) ∙ (rw (h.scope, h.names) at c.in_ok-a.ensures.reads) (binding_2 k))

pub binding-returns-clause-keeps : goal.binding-returns-clause-keeps
binding-returns-clause-keeps t c =
    let F = c.args.self.now.funs.now in
    let d = c.args.d.now in
    let h = c.in_ok-x.ensures in
    let q = c.in_ok-a.ensures.keeps in
    record {
      fits = rw c.in_ok-binding.ensures (tree_binding F d.scope d.names q.between c.scoped.new.d.names c.in_ok-x.x.now c.in_ok-a.a c.in_ok-a.b h.is_name h.is_new h.few (rw (h.scope, h.names) at q.first) (rw h.scope at q.second));
      scope = q.scope ∙ h.scope;
      shorter = omega (arith, length-drop 1 d.cursor, len c.advance.new.self (drop 1 d.cursor) c.advance.ensures, h.shorter, q.shorter);
    }

-- ---- a loop

pub looping-returns-in_err-i-clause-reads : goal.looping-returns-in_err-i-clause-reads
looping-returns-in_err-i-clause-reads t c =
    let F = c.args.self.now.funs.now in
    let O = c.args.self.now.others.now in
    let d = c.args.d.now in
    let x = context d.scope c.args.opened in
    let out = err_from_is_err_and c.from_residual.result c.from_residual.ensures.1 in
    rw (out.1, out.2, ← c.advance.ensures) (λ k. c.in_err-i.ensures F O (looping_1 x d.names k))

pub looping-returns-in_err-n-clause-reads : goal.looping-returns-in_err-n-clause-reads
looping-returns-in_err-n-clause-reads t c =
    let F = c.args.self.now.funs.now in
    let O = c.args.self.now.others.now in
    let d = c.args.d.now in
    let x = context d.scope c.args.opened in
    let out = err_from_is_err_and c.from_residual-in_err-n.result c.from_residual-in_err-n.ensures.1 in
    let i = c.in_ok-i.i.now in
    let hi = c.in_ok-i.ensures in
    rw (out.1, out.2, ← c.advance.ensures) (λ k. refused_along _ _ c.in_err-n.field-0.0 (hi.goes F O (looping_1 x d.names k)) ((rw (hi.scope, hi.names) at c.in_err-n.ensures.reads) (looping_2 x i k)))

pub looping-returns-in_err-a-clause-reads : goal.looping-returns-in_err-a-clause-reads
looping-returns-in_err-a-clause-reads t c =
    let F = c.args.self.now.funs.now in
    let O = c.args.self.now.others.now in
    let d = c.args.d.now in
    let x = context d.scope c.args.opened in
    let out = err_from_is_err_and c.from_residual-in_err-a.result c.from_residual-in_err-a.ensures.1 in
    let i = c.in_ok-i.i.now in
    let hi = c.in_ok-i.ensures in
    let n = c.expr_before.new.d in
    let hn = c.in_ok-n.ensures in
    let sn = hn.keeps.scope ∙ hi.scope in
    rw (out.1, out.2, ← c.advance.ensures) (λ k. refused_along _ _ c.in_err-a.field-0.0 (hi.goes F O (looping_1 x d.names k) ∙ (rw (hi.scope, hi.names) at hn.reads) (looping_2 x i k)) ((rw sn at c.in_err-a.ensures F O) (looping_3 x i n.names c.in_ok-n.n k)))

pub looping-scoped-requires : goal.looping-scoped-requires
looping-scoped-requires t c =
    let d = c.args.d.now in
    let i = c.in_ok-i.i.now in
    let hi = c.in_ok-i.ensures in
    let n = c.expr_before.new.d in
    let hn = c.in_ok-n.ensures in
    let ha = c.in_ok-a.ensures in
    (omega (arith, c.decreases, some_left d.cursor c.requires, length-drop 1 d.cursor, len c.advance.new.self (drop 1 d.cursor) c.advance.ensures, hi.shorter, hn.keeps.shorter, ha.shorter), room_for_two n.scope c.second_name_before.new.self.scope i ha.scope ha.few)

pub looping-returns-in_err-s-clause-reads : goal.looping-returns-in_err-s-clause-reads
looping-returns-in_err-s-clause-reads t c =
    let F = c.args.self.now.funs.now in
    let O = c.args.self.now.others.now in
    let d = c.args.d.now in
    let x = context d.scope c.args.opened in
    let out = err_from_is_err_and c.from_residual-in_err-s.result c.from_residual-in_err-s.ensures.1 in
    let i = c.in_ok-i.i.now in
    let hi = c.in_ok-i.ensures in
    let n = c.expr_before.new.d in
    let hn = c.in_ok-n.ensures in
    let sn = hn.keeps.scope ∙ hi.scope in
    let ha = c.in_ok-a.ensures in
    let sa = ha.scope ∙ sn in
    rw (out.1, out.2, ← c.advance.ensures) (λ k. refused_along _ _ c.in_err-s.field-0.0 (hi.goes F O (looping_1 x d.names k) ∙ (rw (hi.scope, hi.names) at hn.reads) (looping_2 x i k) ∙ (rw sn at ha.goes F O) (looping_3 x i n.names c.in_ok-n.n k)) ((rw (sa, ha.names) at c.in_err-s.ensures.reads) (looping_4 c.in_ok-n.n k)))

pub looping-returns-clause-reads : goal.looping-returns-clause-reads
looping-returns-clause-reads t c =
    let F = c.args.self.now.funs.now in
    let O = c.args.self.now.others.now in
    let d = c.args.d.now in
    let x = context d.scope c.args.opened in
    let i = c.in_ok-i.i.now in
    let hi = c.in_ok-i.ensures in
    let n = c.expr_before.new.d in
    let hn = c.in_ok-n.ensures in
    let sn = hn.keeps.scope ∙ hi.scope in
    let ha = c.in_ok-a.ensures in
    let sa = ha.scope ∙ sn in
    rw (← c.advance.ensures, c.in_ok-looping.ensures) (λ k. hi.goes F O (looping_1 x d.names k) ∙ (rw (hi.scope, hi.names) at hn.reads) (looping_2 x i k) ∙ (rw sn at ha.goes F O) (looping_3 x i n.names c.in_ok-n.n k) ∙ (rw (sa, ha.names) at c.in_ok-s.ensures.reads) (looping_4 c.in_ok-n.n k))

pub looping-returns-clause-keeps : goal.looping-returns-clause-keeps
looping-returns-clause-keeps t c =
    let F = c.args.self.now.funs.now in
    let d = c.args.d.now in
    let i = c.in_ok-i.i.now in
    let hi = c.in_ok-i.ensures in
    let n = c.expr_before.new.d in
    let hn = c.in_ok-n.ensures in
    let sn = hn.keeps.scope ∙ hi.scope in
    let ha = c.in_ok-a.ensures in
    let sa = ha.scope ∙ sn in
    let q = c.in_ok-s.ensures.keeps in
    record {
      fits = rw c.in_ok-looping.ensures (tree_looping F d.scope d.names n.names q.between c.scoped.new.d.names i c.in_ok-a.a.now c.in_ok-n.n c.in_ok-s.s c.in_ok-s.e hi.is_name hi.is_new hi.few ha.is_name (rw sn at ha.is_new) (rw sn at ha.few)
          (rw (hi.scope, hi.names) at hn.keeps.fits) (rw (sa, ha.names) at q.first) (rw sa at q.second));
      scope = q.scope ∙ sa;
      shorter = omega (arith, length-drop 1 d.cursor, len c.advance.new.self (drop 1 d.cursor) c.advance.ensures, hi.shorter, hn.keeps.shorter, ha.shorter, q.shorter);
    }

-- ---- operators

pub operation-returns-in-Unary-clause-reads : goal.operation-returns-in-Unary-clause-reads
operation-returns-in-Unary-clause-reads t c =
    let F = c.args.self.now.funs.now in
    let O = c.args.self.now.others.now in
    let d = c.args.d.now in
    let x = context d.scope c.args.opened in
    read_from F O d.cursor d.cursor (operand c.args.level x d.names) (operand level.Unary x d.names) c.unary.new.d c.unary.result (λ k. ap (λ (l : Level). reading F O d.cursor (operand l x d.names k)) c.in-Unary.is) c.unary.ensures.reads

pub operation-returns-in_err-left-in_default-clause-reads : goal.operation-returns-in_err-left-in_default-clause-reads
operation-returns-in_err-left-in_default-clause-reads t c =
    let F = c.args.self.now.funs.now in
    let O = c.args.self.now.others.now in
    let d = c.args.d.now in
    let x = context d.scope c.args.opened in
    let out = err_from_is_err_and c.from_residual.result c.from_residual.ensures.1 in
    rw (out.1, out.2) (λ k. refused_along _ _ c.in_err-left-in_default.field-0.0 (operand_tighter F O x d.names (curried k) c.args.level d.cursor c.in_default.not-Unary) ((rw c.tighter.ensures at c.in_err-left-in_default.ensures.reads) (λ p. more c.args.level x p.0 p.1 (curried k))))

pub operation-loop-op-init : goal.operation-loop-op-init
operation-loop-op-init t c =
    let F = c.args.self.now.funs.now in
    let O = c.args.self.now.others.now in
    let d = c.args.d.now in
    let x = context d.scope c.args.opened in
    let p = c.in_ok-left-in_default.ensures in
    record {
      reads = λ k. operand_tighter F O x d.names k c.args.level d.cursor c.in_default.not-Unary ∙ (rw c.tighter.ensures at p.reads) (λ p. more c.args.level x p.0 p.1 k);
      fits = p.keeps.fits;
      scope = p.keeps.scope;
      shorter = p.keeps.shorter;
    }

pub operation-returns-in_err-right-clause-reads : goal.operation-returns-in_err-right-clause-reads
operation-returns-in_err-right-clause-reads t c =
    let F = c.args.self.now.funs.now in
    let O = c.args.self.now.others.now in
    let d = c.args.d.now in
    let x = context d.scope c.args.opened in
    let out = err_from_is_err_and c.from_residual-in_err-right.result c.from_residual-in_err-right.ensures.1 in
    let i = c.loop-op.invariant in
    let l = c.loop-op.d in
    let op = c.in-Some.op in
    let a = c.loop-op.left in
    rw (out.1, out.2) (λ k. refused_along _ _ c.in_err-right.field-0.0 (i.reads (curried k) ∙ (more_goes F O x l.names (curried k) c.args.level a op l.cursor (sym c.in-Some.ensures) ∙ ap (λ (ts : List Lexeme). reading F O ts (second_operand c.args.level op x l.names a (curried k))) (sym c.advance.ensures))) ((rw (i.scope, c.tighter-in-Some.ensures) at c.in_err-right.ensures.reads) (λ p. grown c.args.level x p.0 (over_two (binary op) a p.1) (curried k))))

pub operation-returns-in-Comparison-clause-reads : goal.operation-returns-in-Comparison-clause-reads
operation-returns-in-Comparison-clause-reads t c =
    let F = c.args.self.now.funs.now in
    let O = c.args.self.now.others.now in
    let d = c.args.d.now in
    let x = context d.scope c.args.opened in
    let i = c.loop-op.invariant in
    let l = c.loop-op.d in
    let op = c.in-Some.op in
    let a = c.loop-op.left in
    let new = c.operation-in-Some.new.d in
    λ k. (i.reads (curried k) ∙ (more_goes F O x l.names (curried k) c.args.level a op l.cursor (sym c.in-Some.ensures) ∙ ap (λ (ts : List Lexeme). reading F O ts (second_operand c.args.level op x l.names a (curried k))) (sym c.advance.ensures))) ∙ (rw (i.scope, c.tighter-in-Some.ensures) at c.in_ok-right.ensures.reads) (λ p. grown c.args.level x p.0 (over_two (binary op) a p.1) (curried k)) ∙ ap (λ (u : Tree). reading F O new.cursor (grown c.args.level x new.names u (curried k))) (sym c.in_ok-left.ensures) ∙ ap (λ (v : Level). reading F O new.cursor (grown v x new.names c.in_ok-left.left (curried k))) c.in-Comparison.is

pub operation-returns-in-Comparison-clause-keeps : goal.operation-returns-in-Comparison-clause-keeps
operation-returns-in-Comparison-clause-keeps t c =
    let F = c.args.self.now.funs.now in
    let d = c.args.d.now in
    let i = c.loop-op.invariant in
    let l = c.loop-op.d in
    let op = c.in-Some.op in
    let a = c.loop-op.left in
    let new = c.operation-in-Some.new.d in
    let q = c.in_ok-right.ensures.keeps in
    record {
      fits = rw c.in_ok-left.ensures (tree_binary F d.scope d.names op l.names new.names a c.in_ok-right.right i.fits (rw i.scope at q.fits));
      scope = q.scope ∙ i.scope;
      shorter = omega (arith, i.shorter, q.shorter, len c.advance.new.self (drop 1 l.cursor) c.advance.ensures, length-drop 1 l.cursor);
    }

pub operation-loop-op-preserved : goal.operation-loop-op-preserved
operation-loop-op-preserved t c =
    let F = c.args.self.now.funs.now in
    let O = c.args.self.now.others.now in
    let d = c.args.d.now in
    let x = context d.scope c.args.opened in
    let i = c.loop-op.invariant in
    let l = c.loop-op.d in
    let op = c.in-Some.op in
    let a = c.loop-op.left in
    let new = c.operation-in-Some.new.d in
    let q = c.in_ok-right.ensures.keeps in
    record {
      reads = λ k. (i.reads k ∙ (more_goes F O x l.names k c.args.level a op l.cursor (sym c.in-Some.ensures) ∙ ap (λ (ts : List Lexeme). reading F O ts (second_operand c.args.level op x l.names a k)) (sym c.advance.ensures))) ∙ (rw (i.scope, c.tighter-in-Some.ensures) at c.in_ok-right.ensures.reads) (λ p. grown c.args.level x p.0 (over_two (binary op) a p.1) k) ∙ ap (λ (u : Tree). reading F O new.cursor (grown c.args.level x new.names u k)) (sym c.in_ok-left.ensures) ∙ ap (reading F O new.cursor) (grown_more c.args.level x new.names c.in_ok-left.left k c.in_default-level.not-Comparison);
      fits = rw c.in_ok-left.ensures (tree_binary F d.scope d.names op l.names new.names a c.in_ok-right.right i.fits (rw i.scope at q.fits));
      scope = q.scope ∙ i.scope;
      shorter = omega (arith, i.shorter, q.shorter, len c.advance.new.self (drop 1 l.cursor) c.advance.ensures, length-drop 1 l.cursor);
    }

pub operation-returns-clause-reads : goal.operation-returns-clause-reads
operation-returns-clause-reads t c =
    let F = c.args.self.now.funs.now in
    let O = c.args.self.now.others.now in
    let d = c.args.d.now in
    let x = context d.scope c.args.opened in
    let i = c.loop-op.invariant in
    let l = c.loop-op.d in
    λ k. i.reads (curried k) ∙ more_ends F O x l.names (curried k) c.args.level c.loop-op.left l.cursor (sym c.in_default-operator.ensures)

-- ---- two in parentheses

pub pair-returns-in_err-a-clause-reads : goal.pair-returns-in_err-a-clause-reads
pair-returns-in_err-a-clause-reads t c =
    let F = c.args.self.now.funs.now in
    let O = c.args.self.now.others.now in
    let d = c.args.d.now in
    let x = context d.scope c.args.opened in
    let out = err_from_is_err_and c.from_residual-in_err-a.result c.from_residual-in_err-a.ensures.1 in
    let op = c.args.op in
    let ts = c.advance.new.self in
    rw (out.1, out.2, ← c.advance.ensures) (λ k. refused_along _ _ c.in_err-a.field-0.0 (taken F O ts c.expect.new.self (codes "(") (expr_before x d.names (codes ",") (curried (pair_1 x op k))) c.in_ok-expect.ensures) (c.in_err-a.ensures.reads (pair_1 x op k)))

pub pair-returns-in_err-b-clause-reads : goal.pair-returns-in_err-b-clause-reads
pair-returns-in_err-b-clause-reads t c =
    let F = c.args.self.now.funs.now in
    let O = c.args.self.now.others.now in
    let d = c.args.d.now in
    let x = context d.scope c.args.opened in
    let out = err_from_is_err_and c.from_residual-in_err-b.result c.from_residual-in_err-b.ensures.1 in
    let p = c.in_ok-a.ensures in
    let op = c.args.op in
    let ts = c.advance.new.self in
    rw (out.1, out.2, ← c.advance.ensures) (λ k. refused_along _ _ c.in_err-b.field-0.0 (taken F O ts c.expect.new.self (codes "(") (expr_before x d.names (codes ",") (curried (pair_1 x op k))) c.in_ok-expect.ensures ∙ p.reads (pair_1 x op k)) ((rw p.keeps.scope at c.in_err-b.ensures.reads) (pair_2 op c.in_ok-a.a k)))

pub pair-returns-clause-reads : goal.pair-returns-clause-reads
pair-returns-clause-reads t c =
    let F = c.args.self.now.funs.now in
    let O = c.args.self.now.others.now in
    let d = c.args.d.now in
    let x = context d.scope c.args.opened in
    let p = c.in_ok-a.ensures in
    let op = c.args.op in
    let ts = c.advance.new.self in
    rw (← c.advance.ensures, c.in_ok-binary.ensures) (λ k. taken F O ts c.expect.new.self (codes "(") (expr_before x d.names (codes ",") (curried (pair_1 x op k))) c.in_ok-expect.ensures ∙ (p.reads (pair_1 x op k) ∙ (rw p.keeps.scope at c.in_ok-b.ensures.reads) (pair_2 op c.in_ok-a.a k)))

pub pair-returns-clause-keeps : goal.pair-returns-clause-keeps
pair-returns-clause-keeps t c =
    let F = c.args.self.now.funs.now in
    let d = c.args.d.now in
    let p = c.in_ok-a.ensures in
    let q = c.in_ok-b.ensures.keeps in
    record {
      fits = rw c.in_ok-binary.ensures (tree_binary F d.scope d.names c.args.op c.expr_before.new.d.names c.expr_before-2.new.d.names c.in_ok-a.a c.in_ok-b.b p.keeps.fits (rw p.keeps.scope at q.fits));
      scope = q.scope ∙ p.keeps.scope;
      shorter = omega (arith, length-drop 1 d.cursor, len c.advance.new.self (drop 1 d.cursor) c.advance.ensures, len c.expect.new.self (drop 1 c.advance.new.self) c.in_ok-expect.ensures.1, length-drop 1 c.advance.new.self, p.keeps.shorter, q.shorter);
    }

-- ---- a call

pub call-returns-in_err-expr-clause-reads : goal.call-returns-in_err-expr-clause-reads
call-returns-in_err-expr-clause-reads t c =
    let F = c.args.self.now.funs.now in
    let O = c.args.self.now.others.now in
    let d = c.args.d.now in
    let x = context d.scope c.args.opened in
    let out = err_from_is_err_and c.from_residual-in_err-expr.result c.from_residual-in_err-expr.ensures.1 in
    let f = callee_of c.args.callee in
    rw (out.1, out.2) (λ k. refused_along _ _ c.in_err-expr.field-0.0 (taken F O d.cursor c.expect.new.self (codes "(") (expr x d.names (λ n a. arguments f x n (a ∷ []) (curried k))) c.in_ok-expect.ensures) (c.in_err-expr.ensures.reads (λ p. arguments f x p.0 (p.1 ∷ []) (curried k))))

pub call-loop-args-init : goal.call-loop-args-init
call-loop-args-init t c =
    let F = c.args.self.now.funs.now in
    let O = c.args.self.now.others.now in
    let d = c.args.d.now in
    let x = context d.scope c.args.opened in
    let f = callee_of c.args.callee in
    let p = c.in_ok-expr.ensures in
    let new : c.push.new.self ≡ c.in_ok-expr.field-0 ∷ [] = c.in_ok-push.ensures.ok ∙ ap (λ (m : List Tree). m ++ c.in_ok-expr.field-0 ∷ []) c.new-args.ensures in
    record {
      reads = λ k. taken F O d.cursor c.expect.new.self (codes "(") (expr x d.names (λ n a. arguments f x n (a ∷ []) k)) c.in_ok-expect.ensures ∙ (p.reads (λ p. arguments f x p.0 (p.1 ∷ []) k) ∙ ap (λ (m : List Tree). reading F O c.expr.new.d.cursor (arguments f x c.expr.new.d.names m k)) (sym new));
      fits = rw new (trees_more F d.scope d.names d.names c.expr.new.d.names [] c.in_ok-expr.field-0 (no_arguments F d.scope d.names) p.keeps.fits);
      scope = p.keeps.scope;
      shorter = omega (arith, p.keeps.shorter, len c.expect.new.self (drop 1 d.cursor) c.in_ok-expect.ensures.1, length-drop 1 d.cursor);
    }

pub call-returns-in_err-expr-2-clause-reads : goal.call-returns-in_err-expr-2-clause-reads
call-returns-in_err-expr-2-clause-reads t c =
    let F = c.args.self.now.funs.now in
    let O = c.args.self.now.others.now in
    let d = c.args.d.now in
    let x = context d.scope c.args.opened in
    let out = err_from_is_err_and c.from_residual-in_err-expr-2.result c.from_residual-in_err-expr-2.ensures.1 in
    let f = callee_of c.args.callee in
    let i = c.loop-args.invariant in
    let l = c.loop-args.d in
    let args = c.loop-args.args in
    rw (out.1, out.2) (λ k. refused_along _ _ c.in_err-expr-2.field-0.0 (i.reads (curried k) ∙ (one_argument_more F O x l.names (curried k) f args l.cursor (sym c.loop-args-test.ensures.said) ∙ ap (λ (ts : List Lexeme). reading F O ts (expr x l.names (λ ms a. arguments f x ms (args ++ a ∷ []) (curried k)))) (sym c.loop-args-test.ensures.taken))) ((rw i.scope at c.in_err-expr-2.ensures.reads) (λ p. arguments f x p.0 (args ++ p.1 ∷ []) (curried k))))

pub call-loop-args-preserved : goal.call-loop-args-preserved
call-loop-args-preserved t c =
    let F = c.args.self.now.funs.now in
    let O = c.args.self.now.others.now in
    let d = c.args.d.now in
    let x = context d.scope c.args.opened in
    let f = callee_of c.args.callee in
    let i = c.loop-args.invariant in
    let l = c.loop-args.d in
    let args = c.loop-args.args in
    let p = c.in_ok-expr-2.ensures in
    let new = c.expr-in-loop-args.new.d in
    record {
      reads = λ k. (i.reads k ∙ (one_argument_more F O x l.names k f args l.cursor (sym c.loop-args-test.ensures.said) ∙ ap (λ (ts : List Lexeme). reading F O ts (expr x l.names (λ ms a. arguments f x ms (args ++ a ∷ []) k))) (sym c.loop-args-test.ensures.taken))) ∙ ((rw i.scope at p.reads) (λ p. arguments f x p.0 (args ++ p.1 ∷ []) k) ∙ ap (λ (l : List Tree). reading F O new.cursor (arguments f x new.names l k)) (sym c.in_ok-push-2.ensures.ok));
      fits = rw c.in_ok-push-2.ensures.ok (trees_more F d.scope d.names l.names new.names args c.in_ok-expr-2.field-0 i.fits (rw i.scope at p.keeps.fits));
      scope = p.keeps.scope ∙ i.scope;
      shorter = omega (arith, i.shorter, p.keeps.shorter, len c.take.new.self (drop 1 l.cursor) c.loop-args-test.ensures.taken, length-drop 1 l.cursor);
    }

pub call-returns-clause-reads : goal.call-returns-clause-reads
call-returns-clause-reads t c =
    let F = c.args.self.now.funs.now in
    let O = c.args.self.now.others.now in
    let d = c.args.d.now in
    let x = context d.scope c.args.opened in
    let f = callee_of c.args.callee in
    let i = c.loop-args.invariant in
    let l = c.loop-args.d in
    let args = c.loop-args.args in
    read_from F O d.cursor c.take.new.self (call_rest f x d.names) (arguments f x l.names args) c.end_call.new.d c.end_call.result (λ k. i.reads k ∙ ap (λ (ts : List Lexeme). reading F O ts (arguments f x l.names args k)) (sym c.loop-args-test.ensures.taken)) (c.end_call.ensures.reads x)

pub call-returns-clause-keeps : goal.call-returns-clause-keeps
call-returns-clause-keeps t c =
    let F = c.args.self.now.funs.now in
    let O = c.args.self.now.others.now in
    let d = c.args.d.now in
    let i = c.loop-args.invariant in
    let l = c.loop-args.d in
    let args = c.loop-args.args in
    keeps_by F O d c.end_call.new.d c.end_call.result
    (rw c.end_call.ensures.names (call_fits F O d.scope d.names l.names c.args.callee.fun c.args.callee.params args c.end_call.result c.requires.widths c.requires.rank i.fits c.end_call.ensures.tree))
    (c.end_call.ensures.scope ∙ i.scope) (omega (arith, i.shorter, c.end_call.ensures.shorter, len c.take.new.self l.cursor c.loop-args-test.ensures.taken))

-- ---- a unary

pub unary-returns-in_err-a-in-Minus-clause-reads : goal.unary-returns-in_err-a-in-Minus-clause-reads
unary-returns-in_err-a-in-Minus-clause-reads t c =
    let F = c.args.self.now.funs.now in
    let O = c.args.self.now.others.now in
    let d = c.args.d.now in
    let x = context d.scope c.args.opened in
    let deeper = context d.scope (c.args.opened + 1) in
    let out = err_from_is_err_and c.from_residual.result c.from_residual.ensures.1 in
    rw (out.1, out.2) (λ k. refused_along _ _ c.in_err-a-in-Minus.field-0.0 (unary_minus F O x d.names (curried k) d.cursor (sym c.in-Minus.ensures) (lt-ltb c.args.opened 256 c.if-opened-ge-MOST_OPENED.false) ∙ ap (λ (ts : List Lexeme). reading F O ts (operand level.Unary deeper d.names (λ ms a. k (ms, over_one minus a)))) (sym c.advance.ensures)) (c.in_err-a-in-Minus.ensures.reads (λ p. k (p.0, over_one minus p.1))))

pub unary-returns-in_ok-minus-in-Minus-clause-reads : goal.unary-returns-in_ok-minus-in-Minus-clause-reads
unary-returns-in_ok-minus-in-Minus-clause-reads t c =
    let F = c.args.self.now.funs.now in
    let O = c.args.self.now.others.now in
    let d = c.args.d.now in
    let x = context d.scope c.args.opened in
    let deeper = context d.scope (c.args.opened + 1) in
    rw c.in_ok-minus-in-Minus.ensures (λ k. (unary_minus F O x d.names (curried k) d.cursor (sym c.in-Minus.ensures) (lt-ltb c.args.opened 256 c.if-opened-ge-MOST_OPENED.false) ∙ ap (λ (ts : List Lexeme). reading F O ts (operand level.Unary deeper d.names (λ ms a. k (ms, over_one minus a)))) (sym c.advance.ensures)) ∙ c.in_ok-a-in-Minus.ensures.reads (λ p. k (p.0, over_one minus p.1)))

pub unary-returns-in_ok-minus-in-Minus-clause-keeps : goal.unary-returns-in_ok-minus-in-Minus-clause-keeps
unary-returns-in_ok-minus-in-Minus-clause-keeps t c =
    let F = c.args.self.now.funs.now in
    let d = c.args.d.now in
    let p = c.in_ok-a-in-Minus.ensures.keeps in
    record {
      fits = rw c.in_ok-minus-in-Minus.ensures (tree_minus F d.scope d.names c.unary.new.d.names c.in_ok-a-in-Minus.a p.fits);
      scope = p.scope;
      shorter = omega (arith, p.shorter, len c.advance.new.self (drop 1 d.cursor) c.advance.ensures, length-drop 1 d.cursor);
    }

pub unary-returns-in_err-a-in-Not-clause-reads : goal.unary-returns-in_err-a-in-Not-clause-reads
unary-returns-in_err-a-in-Not-clause-reads t c =
    let F = c.args.self.now.funs.now in
    let O = c.args.self.now.others.now in
    let d = c.args.d.now in
    let x = context d.scope c.args.opened in
    let deeper = context d.scope (c.args.opened + 1) in
    let out = err_from_is_err_and c.from_residual-in_err-a-in-Not.result c.from_residual-in_err-a-in-Not.ensures.1 in
    rw (out.1, out.2) (λ k. refused_along _ _ c.in_err-a-in-Not.field-0.0 (unary_not F O x d.names (curried k) d.cursor (sym c.in-Not.ensures) (lt-ltb c.args.opened 256 c.if-opened-ge-MOST_OPENED.false) ∙ ap (λ (ts : List Lexeme). reading F O ts (operand level.Unary deeper d.names (λ ms a. k (ms, over_one opposite a)))) (sym c.advance-in-Not.ensures)) (c.in_err-a-in-Not.ensures.reads (λ p. k (p.0, over_one opposite p.1))))

pub unary-returns-in_ok-opposite-in-Not-clause-reads : goal.unary-returns-in_ok-opposite-in-Not-clause-reads
unary-returns-in_ok-opposite-in-Not-clause-reads t c =
    let F = c.args.self.now.funs.now in
    let O = c.args.self.now.others.now in
    let d = c.args.d.now in
    let x = context d.scope c.args.opened in
    let deeper = context d.scope (c.args.opened + 1) in
    rw c.in_ok-opposite-in-Not.ensures (λ k. (unary_not F O x d.names (curried k) d.cursor (sym c.in-Not.ensures) (lt-ltb c.args.opened 256 c.if-opened-ge-MOST_OPENED.false) ∙ ap (λ (ts : List Lexeme). reading F O ts (operand level.Unary deeper d.names (λ ms a. k (ms, over_one opposite a)))) (sym c.advance-in-Not.ensures)) ∙ c.in_ok-a-in-Not.ensures.reads (λ p. k (p.0, over_one opposite p.1)))

pub unary-returns-in_ok-opposite-in-Not-clause-keeps : goal.unary-returns-in_ok-opposite-in-Not-clause-keeps
unary-returns-in_ok-opposite-in-Not-clause-keeps t c =
    let F = c.args.self.now.funs.now in
    let d = c.args.d.now in
    let p = c.in_ok-a-in-Not.ensures.keeps in
    record {
      fits = rw c.in_ok-opposite-in-Not.ensures (tree_opposite F d.scope d.names c.unary-in-Not.new.d.names c.in_ok-a-in-Not.a p.fits);
      scope = p.scope;
      shorter = omega (arith, p.shorter, len c.advance-in-Not.new.self (drop 1 d.cursor) c.advance-in-Not.ensures, length-drop 1 d.cursor);
    }

pub unary-returns-in-Pair-clause-reads : goal.unary-returns-in-Pair-clause-reads
unary-returns-in-Pair-clause-reads t c =
    let F = c.args.self.now.funs.now in
    let O = c.args.self.now.others.now in
    let d = c.args.d.now in
    let x = context d.scope c.args.opened in
    let deeper = context d.scope (c.args.opened + 1) in
    read_from F O d.cursor (drop 1 d.cursor) (operand level.Unary x d.names) (pair_rest _ deeper d.names) c.pair.new.d c.pair.result (λ k. unary_pair F O x d.names k _ d.cursor (sym c.in-Pair.ensures) (lt-ltb c.args.opened 256 c.if-opened-ge-MOST_OPENED.false)) c.pair.ensures.reads

pub unary-returns-in-Parenthesis-clause-reads : goal.unary-returns-in-Parenthesis-clause-reads
unary-returns-in-Parenthesis-clause-reads t c =
    let F = c.args.self.now.funs.now in
    let O = c.args.self.now.others.now in
    let d = c.args.d.now in
    let x = context d.scope c.args.opened in
    let deeper = context d.scope (c.args.opened + 1) in
    let ts = c.advance-in-Parenthesis.new.self in
    read_from F O d.cursor ts (operand level.Unary x d.names) (expr_before deeper d.names (codes ")")) c.expr_before.new.d c.expr_before.result (λ k. unary_parenthesis F O x d.names k d.cursor (sym c.in-Parenthesis.ensures) (lt-ltb c.args.opened 256 c.if-opened-ge-MOST_OPENED.false) ∙ ap (λ (ts : List Lexeme). reading F O ts (expr_before deeper d.names (codes ")") k)) (sym c.advance-in-Parenthesis.ensures)) c.expr_before.ensures.reads

pub unary-returns-in-Parenthesis-clause-keeps : goal.unary-returns-in-Parenthesis-clause-keeps
unary-returns-in-Parenthesis-clause-keeps t c =
    let F = c.args.self.now.funs.now in
    let O = c.args.self.now.others.now in
    let d = c.args.d.now in
    let ts = c.advance-in-Parenthesis.new.self in
    keeps_from F O d _ c.expr_before.new.d c.expr_before.result refl refl (omega (arith, length-drop 1 d.cursor, len ts (drop 1 d.cursor) c.advance-in-Parenthesis.ensures)) c.expr_before.ensures.keeps

pub unary-returns-in_err-callee-in-Call-clause-reads : goal.unary-returns-in_err-callee-in-Call-clause-reads
unary-returns-in_err-callee-in-Call-clause-reads t c =
    let F = c.args.self.now.funs.now in
    let O = c.args.self.now.others.now in
    let d = c.args.d.now in
    let out = err_from_is_err_and c.from_residual-in_err-callee-in-Call.result c.from_residual-in_err-callee-in-Call.ensures.1 in
    rw (out.1, out.2) (callee_refused F O d c.callee.new.d c.args.opened c.in_err-callee-in-Call.field-0.0 (sym c.in-Call.ensures) (lt-ltb c.args.opened 256 c.if-opened-ge-MOST_OPENED.false) c.in_err-callee-in-Call.ensures.tests)

pub unary-returns-in_ok-callee-in-Call-clause-reads : goal.unary-returns-in_ok-callee-in-Call-clause-reads
unary-returns-in_ok-callee-in-Call-clause-reads t c =
    let F = c.args.self.now.funs.now in
    let O = c.args.self.now.others.now in
    let d = c.args.d.now in
    let x = context d.scope c.args.opened in
    let e = c.callee.new.d in
    let h = c.in_ok-callee-in-Call.ensures in
    read_from F O d.cursor e.cursor (operand level.Unary x d.names) (call_rest (callee_of c.in_ok-callee-in-Call.callee) (context e.scope (c.args.opened + 1)) e.names) c.call.new.d c.call.result (λ k. unary_call F O x d.names k d.cursor (sym c.in-Call.ensures) (lt-ltb c.args.opened 256 c.if-opened-ge-MOST_OPENED.false) h.tests ∙ rw (h.taken, h.scope, h.names, h.callee.1) refl) c.call.ensures.reads

pub unary-returns-in_ok-callee-in-Call-clause-keeps : goal.unary-returns-in_ok-callee-in-Call-clause-keeps
unary-returns-in_ok-callee-in-Call-clause-keeps t c =
    let F = c.args.self.now.funs.now in
    let O = c.args.self.now.others.now in
    let d = c.args.d.now in
    let e = c.callee.new.d in
    let h = c.in_ok-callee-in-Call.ensures in
    keeps_from F O d e c.call.new.d c.call.result h.scope h.names (omega (arith, length-drop 1 d.cursor, len e.cursor (drop 1 d.cursor) h.taken)) c.call.ensures.keeps

pub unary-number-requires : goal.unary-number-requires
unary-number-requires t c =
    let d = c.args.d.now in
    is_number (form d.cursor) (form_behind d.cursor) (sym c.in-Number.ensures)

pub unary-returns-in-Variable-clause-reads : goal.unary-returns-in-Variable-clause-reads
unary-returns-in-Variable-clause-reads t c =
    let F = c.args.self.now.funs.now in
    let O = c.args.self.now.others.now in
    let d = c.args.d.now in
    variable_read F O d c.variable.new.self c.args.opened c.variable.result (sym c.in-Variable.ensures) (lt-ltb c.args.opened 256 c.if-opened-ge-MOST_OPENED.false) c.variable.ensures

pub unary-returns-in-Variable-clause-keeps : goal.unary-returns-in-Variable-clause-keeps
unary-returns-in-Variable-clause-keeps t c =
    let F = c.args.self.now.funs.now in
    let O = c.args.self.now.others.now in
    let d = c.args.d.now in
    variable_keeps F O d c.variable.new.self c.variable.result c.variable.ensures

pub unary-returns-in-Number-clause-reads : goal.unary-returns-in-Number-clause-reads
unary-returns-in-Number-clause-reads t c =
    let F = c.args.self.now.funs.now in
    let O = c.args.self.now.others.now in
    let d = c.args.d.now in
    let x = context d.scope c.args.opened in
    let h = c.number.ensures in
    λ k. unary_number F O x d.names (curried k) d.cursor (sym c.in-Number.ensures) (lt-ltb c.args.opened 256 c.if-opened-ge-MOST_OPENED.false) ∙ rw (h.cursor, h.names, h.tree) refl

pub unary-returns-in-Number-clause-keeps : goal.unary-returns-in-Number-clause-keeps
unary-returns-in-Number-clause-keeps t c =
    let F = c.args.self.now.funs.now in
    let d = c.args.d.now in
    let h = c.number.ensures in
    record {
      fits = rw (h.tree, h.names) (fits_number F d.scope d.names (number_in (form d.cursor)) h.few);
      scope = h.scope;
      shorter = omega (arith, len c.number.new.self.cursor (drop 1 d.cursor) h.cursor, length-drop 1 d.cursor);
    }
