use Rattle.std.proofs.Common.{nat_lt, refl, ap, arith, lt-ltb, le-ltb, ◌∙◌}
use Rattle.msl_lex.specs.declared.kind.Kind.TheVariants.{Range}
use Rattle.msl_program.specs.declared.shape.Need.TheVariants as need
use Rattle.msl_grammar.specs.Uses.{shape_of}
use Rattle.msl_program.specs.Programs.{blocks_of}
use Rattle.msl_grammar.specs.ScriptGrammar.{a_block_of}
use Rattle.msl_grammar.proofs.Exits.{is_err}
use Rattle.msl_data_read.proofs.ProgramLeaves.{line_refused, line_unfit, line_fit}
use Rattle.msl_data_read.proofs.scope.Scope.block_of.Goals as goal

pub returns-in_err-line-clause-read : goal.returns-in_err-line-clause-read
returns-in_err-line-clause-read c =
    let p = c.args.self.now.program.now in
    let b = c.args.block in
    rw (is_err c.from_residual.result c.from_residual.ensures.1)
    (λ k. line_refused p need.Array Range b.1 (λ shape. nat_lt b.0 (blocks_of shape)) k (a_block_of p b k) (λ t behind. refl) c.args.c.now c.in-Some.name.now c.in-Some.ensures.name _ c.in_err-line.ensures.tested)

pub returns-then-block-from-clause-read : goal.returns-then-block-from-clause-read
returns-then-block-from-clause-read c =
    let p = c.args.self.now.program.now in
    let b = c.args.block in
    let n = c.in-Some.name.now in
    let blocks = c.blocks-blocks.ensures ∙ ap (λ l. blocks_of l.1) c.in_ok-line.ensures.found in
    λ k. line_unfit p need.Array Range b.1 (λ shape. nat_lt b.0 (blocks_of shape)) k (a_block_of p b k) (λ t behind. refl) c.args.c.now n c.in-Some.ensures.name c.in_ok-line.ensures.tested
    (le-ltb b.0 (blocks_of (shape_of p n)) (omega (arith, blocks)))

pub returns-clause-read : goal.returns-clause-read
returns-clause-read c =
    let p = c.args.self.now.program.now in
    let b = c.args.block in
    let n = c.in-Some.name.now in
    let blocks = c.blocks-blocks.ensures ∙ ap (λ l. blocks_of l.1) c.in_ok-line.ensures.found in
    λ k. line_fit p need.Array Range b.1 (λ shape. nat_lt b.0 (blocks_of shape)) k (a_block_of p b k) (λ t behind. refl) c.args.c.now n c.in-Some.ensures.name c.in_ok-line.line _ c.in_ok-line.ensures.tested
    (lt-ltb b.0 (blocks_of (shape_of p n)) (omega (arith, blocks))) c.in_ok-line.ensures.found c.advance.ensures
