use Rattle.std.proofs.Common.{◌≡◌, [], length, codes, arith, ap, sym, ◌∙◌, ◌+◌, drop}
use Rattle.std.proofs.Math.ListN.{drop_of_length-le}
use Rattle.std.proofs.lemmas.List.{length-map}
use Rattle.msl_fun.specs.Evaluable.{size_of, size_of_all}
use Rattle.msl_fun.specs.Shapes.{minus, opposite, binary, choice, binding, looping, calling}
use Rattle.msl_fun_print.specs.Writing.{seen, with_text, with_opening, with_operator, with_expr, with_part, with_value, with_operand, with_list}
use Rattle.msl_fun.proofs.Shapes.{minus_is, opposite_is, binary_is, choice_is, binding_is, looping_is, calling_is}
use Rattle.msl_fun.proofs.Sizes.{size-Neg, size-Not, size-Bin, size-If, size-Let, size-Loop, size-Call, size_within, size-more}
use Rattle.msl_fun.proofs.Steps.{split_at}
use Rattle.msl_fun_print.proofs.Writings.{two, three, part_text, value_text, prefixed_text, plain_operand, operand_text, pair_text, binary_text, choice_text, binding_steps, looping_steps, calling_text, same_expr, list_step, list_ends, no_list}
use Rattle.msl_fun_print.proofs.text.Writer.+text.Goals as goal

-- ---- what is smaller

pub expr-prefixed-requires : goal.expr-prefixed-requires
expr-prefixed-requires t c = (omega (arith, c.decreases, size-Neg c.in-Neg.a, ap size_of c.in-Neg.is, ap size_of c.get.ensures), tt)

pub expr-prefixed-requires-in-Not : goal.expr-prefixed-requires-in-Not
expr-prefixed-requires-in-Not t c = (omega (arith, c.decreases, size-Not c.in-Not.a, ap size_of c.in-Not.is, ap size_of c.get-in-Not.ensures), tt)

pub expr-binary-requires : goal.expr-binary-requires
expr-binary-requires t c =
    (omega (arith, c.decreases, size-Bin c.in-Bin.op c.in-Bin.a c.in-Bin.b, ap size_of c.in-Bin.is, ap size_of c.get-in-Bin.ensures, ap size_of c.get-in-Bin-2.ensures), tt)

pub expr-choice-requires : goal.expr-choice-requires
expr-choice-requires t c =
    (omega (arith, c.decreases, size-If c.in-If.c c.in-If.a c.in-If.b, ap size_of c.in-If.is, ap size_of c.get-in-If.ensures, ap size_of c.get-in-If-2.ensures, ap size_of c.get-in-If-3.ensures), tt)

pub expr-binding-requires : goal.expr-binding-requires
expr-binding-requires t c =
    (omega (arith, c.decreases, size-Let c.in-Let.a c.in-Let.b, ap size_of c.in-Let.is, ap size_of c.get-in-Let.ensures, ap size_of c.get-in-Let-2.ensures), tt)

pub expr-looping-requires : goal.expr-looping-requires
expr-looping-requires t c =
    (omega (arith, c.decreases, size-Loop c.in-Loop.n c.in-Loop.s c.in-Loop.e, ap size_of c.in-Loop.is, ap size_of c.get-in-Loop.ensures, ap size_of c.get-in-Loop-2.ensures, ap size_of c.get-in-Loop-3.ensures), tt)

pub expr-calling-requires : goal.expr-calling-requires
expr-calling-requires t c = (omega (arith, c.decreases, size-Call c.in-Call.f c.in-Call.args, ap size_of c.in-Call.is, ap size_of_all c.as_slice.ensures), tt)

-- ---- by the shape

pub expr-returns-in-Neg : goal.expr-returns-in-Neg
expr-returns-in-Neg t c =
    same_expr c.args.known.now (minus c.get.result.now) c.args.e.now (seen c.args.self.now) (seen c.prefixed.new.self) c.prefixed.result
    (ap minus c.get.ensures ∙ sym (minus_is c.in-Neg.a) ∙ sym c.in-Neg.is) c.prefixed.ensures

pub expr-returns-in-Not : goal.expr-returns-in-Not
expr-returns-in-Not t c =
    same_expr c.args.known.now (opposite c.get-in-Not.result.now) c.args.e.now (seen c.args.self.now) (seen c.prefixed-in-Not.new.self) c.prefixed-in-Not.result
    (ap opposite c.get-in-Not.ensures ∙ sym (opposite_is c.in-Not.a) ∙ sym c.in-Not.is) c.prefixed-in-Not.ensures

pub expr-returns-in-Bin : goal.expr-returns-in-Bin
expr-returns-in-Bin t c =
    same_expr c.args.known.now (binary c.in-Bin.op c.get-in-Bin.result.now c.get-in-Bin-2.result.now) c.args.e.now (seen c.args.self.now) (seen c.binary.new.self) c.binary.result
    ((λ i. binary c.in-Bin.op (c.get-in-Bin.ensures i) (c.get-in-Bin-2.ensures i)) ∙ sym (binary_is c.in-Bin.op c.in-Bin.a c.in-Bin.b) ∙ sym c.in-Bin.is) c.binary.ensures

pub expr-returns-in-If : goal.expr-returns-in-If
expr-returns-in-If t c =
    same_expr c.args.known.now (choice c.get-in-If.result.now c.get-in-If-2.result.now c.get-in-If-3.result.now) c.args.e.now (seen c.args.self.now) (seen c.choice.new.self) c.choice.result
    ((λ i. choice (c.get-in-If.ensures i) (c.get-in-If-2.ensures i) (c.get-in-If-3.ensures i)) ∙ sym (choice_is c.in-If.c c.in-If.a c.in-If.b) ∙ sym c.in-If.is) c.choice.ensures

pub expr-returns-in-Let : goal.expr-returns-in-Let
expr-returns-in-Let t c =
    same_expr c.args.known.now (binding c.get-in-Let.result.now c.get-in-Let-2.result.now) c.args.e.now (seen c.args.self.now) (seen c.binding.new.self) c.binding.result
    ((λ i. binding (c.get-in-Let.ensures i) (c.get-in-Let-2.ensures i)) ∙ sym (binding_is c.in-Let.a c.in-Let.b) ∙ sym c.in-Let.is) c.binding.ensures

pub expr-returns-in-Loop : goal.expr-returns-in-Loop
expr-returns-in-Loop t c =
    same_expr c.args.known.now (looping c.get-in-Loop.result.now c.get-in-Loop-2.result.now c.get-in-Loop-3.result.now) c.args.e.now (seen c.args.self.now) (seen c.looping.new.self) c.looping.result
    ((λ i. looping (c.get-in-Loop.ensures i) (c.get-in-Loop-2.ensures i) (c.get-in-Loop-3.ensures i)) ∙ sym (looping_is c.in-Loop.n c.in-Loop.s c.in-Loop.e) ∙ sym c.in-Loop.is) c.looping.ensures

pub expr-returns-in-Call : goal.expr-returns-in-Call
expr-returns-in-Call t c =
    same_expr c.args.known.now (calling c.in-Call.f c.as_slice.result.now) c.args.e.now (seen c.args.self.now) (seen c.calling.new.self) c.calling.result
    (ap (calling c.in-Call.f) c.as_slice.ensures ∙ sym (calling_is c.in-Call.f c.in-Call.args) ∙ sym c.in-Call.is) c.calling.ensures

-- ---- step by step

pub part-returns : goal.part-returns
part-returns t c =
    let funs = c.args.known.now in
    let e = c.args.e.now in
    let before = c.args.before.now in
    two (with_text before) (with_expr funs e) _ _ _ _ c.expr.result c.in_ok-put.ensures c.expr.ensures (part_text funs before e (seen c.args.self.now))

pub prefixed-returns : goal.prefixed-returns
prefixed-returns t c =
    let funs = c.args.known.now in
    let a = c.args.a.now in
    let op = c.args.op.now in
    two (with_text op) (with_operand funs a) _ _ _ _ c.operand.result c.in_ok-put.ensures c.operand.ensures (prefixed_text funs op a (seen c.args.self.now))

pub value-returns : goal.value-returns
value-returns t c =
    let funs = c.args.known.now in
    let e = c.args.e.now in
    let before = c.args.before.now in
    let name = c.args.name.now in
    let after = c.args.after.now in
    three (with_text before) (with_text name) (with_part funs after e) _ _ _ _ _ c.part.result c.in_ok-put.ensures (c.in_ok-put-2.ensures ∙ ap (λ n. with_text n (seen c.put.new.self)) c.as_bytes.ensures.value) c.part.ensures
    (value_text funs before name after e (seen c.args.self.now))

pub operand-returns-then-is_simple : goal.operand-returns-then-is_simple
operand-returns-then-is_simple t c = plain_operand c.args.known.now c.args.e.now _ _ c.expr.result (sym c.is_simple.ensures ∙ c.if-is_simple.true) c.expr.ensures

pub operand-returns : goal.operand-returns
operand-returns t c =
    let funs = c.args.known.now in
    let e = c.args.e.now in
    two (with_part funs (codes "(") e) (with_text (codes ")")) _ _ _ _ c.put.result c.in_ok-part.ensures c.put.ensures (operand_text funs e (seen c.args.self.now) (sym c.is_simple.ensures ∙ c.if-is_simple.false))

pub choice-returns : goal.choice-returns
choice-returns t c =
    let funs = c.args.known.now in
    let test = c.args.c.now in
    let a = c.args.a.now in
    let b = c.args.b.now in
    three (with_part funs (codes "if ") test) (with_part funs (codes " then ") a) (with_part funs (codes " else ") b) _ _ _ _ _ c.part-3.result c.in_ok-part.ensures c.in_ok-part-2.ensures c.part-3.ensures
    (choice_text funs test a b (seen c.args.self.now))

pub binary-returns : goal.binary-returns
binary-returns t c =
    let funs = c.args.known.now in
    let op = c.args.op in
    let a = c.args.a.now in
    let b = c.args.b.now in
    three (with_operand funs a) (with_operator op) (with_operand funs b) _ _ _ _ _ c.operand-2.result c.in_ok-operand.ensures c.in_ok-between.ensures c.operand-2.ensures
    (binary_text funs op a b (seen c.args.self.now) (sym c.is_pair.ensures ∙ c.if-is_pair.false))

pub pair-returns : goal.pair-returns
pair-returns t c =
    let funs = c.args.known.now in
    let op = c.args.op in
    let a = c.args.a.now in
    let b = c.args.b.now in
    let sign = c.operator.result.now in
    three (with_value funs [] sign (codes "(") a) (with_part funs (codes ", ") b) (with_text (codes ")")) _ _ _ _ _ c.put.result c.in_ok-value.ensures c.in_ok-part.ensures c.put.ensures
    (pair_text funs op a b sign (seen c.args.self.now) c.requires c.operator.ensures)

pub binding-returns : goal.binding-returns
binding-returns t c =
    let s0 = seen c.args.self.now in
    let all : c.len-left.result ≡ length s0.scope = omega (arith, c.len-left.ensures, length-map c.args.self.now.scope.items (λ n. n.now)) in
    binding_steps c.args.known.now c.args.a.now c.args.b.now c.next_name-name.result.now c.len-left.result s0 _ _ _ _ _ all c.next_name-name.ensures.name c.next_name-name.ensures.rest c.in_ok-value.ensures c.in_ok-enter.ensures
    c.in_ok-part.ensures c.leave.ensures

pub looping-returns : goal.looping-returns
looping-returns t c =
    let s0 = seen c.args.self.now in
    let all : c.len-left.result ≡ length s0.scope = omega (arith, c.len-left.ensures, length-map c.args.self.now.scope.items (λ n. n.now)) in
    looping_steps c.args.known.now c.args.n.now c.args.s.now c.args.e.now c.next_name-turn.result.now c.next_name-so_far.result.now c.len-left.result s0 _ _ _ _ _ _ _ _ all c.next_name-turn.ensures.name c.next_name-turn.ensures.rest
    c.in_ok-value.ensures c.next_name-so_far.ensures.name c.next_name-so_far.ensures.rest c.in_ok-value-2.ensures c.in_ok-enter.ensures c.in_ok-enter-2.ensures c.in_ok-part.ensures c.leave.ensures

pub calling-returns : goal.calling-returns
calling-returns t c =
    let funs = c.args.known.now in
    let name = c.called.result.now in
    three (with_opening name) (with_list funs c.args.args.now) (with_text (codes ")")) _ _ _ _ _ c.put.result c.in_ok-open.ensures c.in_ok-list.ensures c.put.ensures
    (calling_text funs c.args.f c.args.args.now name (seen c.args.self.now) c.called.ensures)

-- ---- a list

pub list-returns-in_default : goal.list-returns-in_default
list-returns-in_default t c = no_list c.args.known.now c.args.es.now (seen c.args.self.now) c.in_default.ensures.cases

pub list-expr-requires : goal.list-expr-requires
list-expr-requires t c = (omega (arith, c.decreases, size-more c.in-Some.first.now c.in-Some.others.now, ap size_of_all c.in-Some.ensures.cases.0), tt)

pub list-part-requires : goal.list-part-requires
list-part-requires t c =
    let i = c.loop-e.e-index in
    let others = c.in-Some.others.now in
    let split = split_at others i c.e-item.result c.loop-e-test.true c.e-item.is in
    (omega (arith, c.decreases, size-more c.in-Some.first.now others, ap size_of_all c.in-Some.ensures.cases.0, size_within others i c.e-item.result (drop (i + 1) others) split), tt)

pub list-loop-e-preserved : goal.list-loop-e-preserved
list-loop-e-preserved t c =
    let i = c.loop-e.e-index in
    let others = c.in-Some.others.now in
    list_step c.args.known.now c.e-item.result (drop (i + 1) others) others (drop i others) (seen c.expr.new.self) (seen c.loop-e.self) (seen c.part.new.self)
    (split_at others i c.e-item.result c.loop-e-test.true c.e-item.is) c.in_ok-part.ensures c.loop-e.invariant

pub list-returns : goal.list-returns
list-returns t c =
    let i = c.loop-e.e-index in
    let others = c.in-Some.others.now in
    list_ends c.args.known.now c.in-Some.first.now others c.args.es.now (drop i others) (seen c.args.self.now) (seen c.expr.new.self) (seen c.loop-e.self)
    c.in-Some.ensures.cases.0 (drop_of_length-le others (omega (arith, c.loop-e-test.false))) c.in_ok-expr.ensures c.loop-e.invariant
