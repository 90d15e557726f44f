use Rattle.std.proofs.Common.{◌≡◌, ◌≤◌, ◌+◌, ◌*◌, ℕ, length}
use Rattle.msl_fun_read.specs.declared.parse.level.Level.{Level}
use Rattle.msl_fun_read.specs.declared.parse.level.Level.TheVariants as level
use Rattle.msl_fun_read.specs.Grammar.{Then, operand, more, arguments, call_rest, all_of, reading}
use Rattle.msl_fun_read.specs.Parsing.{FitsTree, context}
use Rattle.msl_fun_read.specs.Calls.{callee_of}
use Rattle.msl_fun_read.specs.Declaring.{FitsAll}
use Rattle.msl_fun_read.proofs.parse.declared.Declared.+expression.Given as goal

-- how loosely the operators of a level bind
abbrev looseness : Level → ℕ
looseness level.Unary = 0
looseness level.Product = 1
looseness level.Sum = 2
looseness level.Comparison = 3
looseness level.And = 4
looseness level.Or = 5

abbrev pub decreases-binding : goal.decreases-binding
decreases-binding l = 16 * length l.d.now.cursor

abbrev pub decreases-call : goal.decreases-call
decreases-call l = 16 * length l.d.now.cursor

abbrev pub decreases-choice : goal.decreases-choice
decreases-choice l = 16 * length l.d.now.cursor

abbrev pub decreases-expr : goal.decreases-expr
decreases-expr l = 16 * length l.d.now.cursor + 8

abbrev pub decreases-looping : goal.decreases-looping
decreases-looping l = 16 * length l.d.now.cursor

abbrev pub decreases-operation : goal.decreases-operation
decreases-operation l = 16 * length l.d.now.cursor + looseness l.level + 2

abbrev pub decreases-pair : goal.decreases-pair
decreases-pair l = 16 * length l.d.now.cursor

abbrev pub decreases-expr_before : goal.decreases-expr_before
decreases-expr_before l = 16 * length l.d.now.cursor + 9

abbrev pub decreases-two : goal.decreases-two
decreases-two l = 16 * length l.d.now.cursor + 10

abbrev pub decreases-scoped : goal.decreases-scoped
decreases-scoped l = 16 * length l.d.now.cursor + 10

abbrev pub decreases-unary : goal.decreases-unary
decreases-unary l = 16 * length l.d.now.cursor + 1

abbrev pub invariant-call-loop-args : goal.invariant-call-loop-args
invariant-call-loop-args l = record {
  reads : (k : Then) → reading l.self.funs.now l.self.others.now l.fn.d.cursor (call_rest (callee_of l.callee) (context l.fn.d.scope l.opened) l.fn.d.names k)
      ≡ reading l.self.funs.now l.self.others.now l.d.cursor (arguments (callee_of l.callee) (context l.fn.d.scope l.opened) l.d.names l.args k);
  fits : FitsAll l.self.funs.now l.fn.d.scope l.fn.d.names l.d.names (all_of l.args);
  scope : l.d.scope ≡ l.fn.d.scope;
  shorter : length l.d.cursor ≤ length l.fn.d.cursor;
}

abbrev pub decreases-call-loop-args : goal.decreases-call-loop-args
decreases-call-loop-args l = length l.d.cursor

abbrev pub invariant-operation-loop-op : goal.invariant-operation-loop-op
invariant-operation-loop-op l = record {
  reads : (k : Then) → reading l.self.funs.now l.self.others.now l.fn.d.cursor (operand l.level (context l.fn.d.scope l.opened) l.fn.d.names k)
      ≡ reading l.self.funs.now l.self.others.now l.d.cursor (more l.level (context l.fn.d.scope l.opened) l.d.names l.left k);
  fits : FitsTree l.self.funs.now l.fn.d.scope l.fn.d.names l.d.names l.left;
  scope : l.d.scope ≡ l.fn.d.scope;
  shorter : length l.d.cursor ≤ length l.fn.d.cursor;
}

abbrev pub decreases-operation-loop-op : goal.decreases-operation-loop-op
decreases-operation-loop-op l = length l.d.cursor
