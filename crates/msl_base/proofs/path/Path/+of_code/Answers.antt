use Rattle.std.proofs.Common.{arith, IfSome, ◌++◌, ◌∷◌, [], ◌≡◌, ◌<◌, ◌≤◌, ◌/◌, ◌%◌, ◌^◌, ℕ, None, Some, subst, ap, sym}
use Rattle.msl_base.specs.Codes.{Decodes}
use Rattle.msl_base.proofs.Codes.{none_between, none_above, none_further, pushed_decodes, front_smaller}
use Rattle.msl_base.proofs.path.Path.+of_code.Goals.{then-code-size-via-then-code-size, then-code-size-via-else-code-size+then-code-gt1}
use Rattle.msl_base.proofs.path.Path.+of_code.Goals as goal

pub returns-then-code-size : goal.returns-then-code-size
returns-then-code-size t c = elim c.then-code-size.branch [
  | then-code-size-via-then-code-size w ↦ none_between c.args.bits c.args.code c.requires.least c.if-code-eq-ROOT_CODE.false (omega (arith, c.field_size-size.ensures.size, w.if-code-size.true))
  | then-code-size-via-else-code-size+then-code-gt1 w ↦ none_above c.args.bits c.args.code (omega (arith, w.if-code-gt1.true))
]

pub of_code-requires : goal.of_code-requires
of_code-requires t c =
    let smaller = front_smaller c.args.bits c.requires.least c.args.code (omega (arith, c.field_size-size.ensures.size, c.if-code-size.false)) in
    let same = ap (λ (n : ℕ). c.args.code / n) c.field_size-size.ensures.size in
    (omega (arith, c.decreases, smaller, same), (c.requires.least, c.requires.most))

pub returns-in_err-parent : goal.returns-in_err-parent
returns-in_err-parent t c =
    let large : 2 ^ c.args.bits ≤ c.args.code = omega (arith, c.field_size-size.ensures.size, c.if-code-size.false) in
    let none : Decodes c.args.bits (c.args.code / 2 ^ c.args.bits) None = subst (λ (n : ℕ). Decodes c.args.bits (c.args.code / n) None) c.field_size-size.ensures.size c.in_err-parent.ensures in
    subst (Decodes c.args.bits c.args.code) (sym c.from_residual.ensures) (none_further c.args.bits c.requires.least c.args.code large none)

pub returns : goal.returns
returns t c =
    let large : 2 ^ c.args.bits ≤ c.args.code = omega (arith, c.field_size-size.ensures.size, c.if-code-size.false) in
    let small : c.args.code < 2 ^ 57 = omega (arith, c.if-code-gt1.false) in
    let size = c.field_size-size.ensures.size in
    let parent = c.in_ok-parent.parent in
    pushed_decodes c.args.bits c.requires.least c.args.code large parent c.push.result small
    (subst (λ (n : ℕ). Decodes c.args.bits (c.args.code / n) (Some parent)) size c.in_ok-parent.ensures)
    c.push.ensures.full
    (subst (λ (n : ℕ). IfSome c.push.result (λ path. path ≡ parent ++ c.args.code % n ∷ [])) size c.push.ensures.pushed)
