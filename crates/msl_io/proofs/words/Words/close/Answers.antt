use Rattle.std.proofs.Common.{rules, ◌+◌, sym, refl, ◌∙◌, FitsSigned, w64, to_z-of_z}
use Rattle.msl_io.specs.declared.words.Words.{Words}
use Rattle.msl_io.proofs.Splitting.{closed_unbegun, closed_bad, closed_number, holds_more, holds_wide}
use Rattle.msl_io.proofs.words.Words.close.Goals as goal

pub returns-then-not-has_begun : goal.returns-then-not-has_begun
returns-then-not-has_begun c text s = closed_unbegun text c.args.self.now c.args.word (sym c.has_begun.ensures ∙ c.if-not-has_begun.true) s

pub returns-in-None : goal.returns-in-None
returns-in-None c text s = closed_bad text c.args.self.now c.refuse.new.self c.args.word (sym c.has_begun.ensures ∙ c.if-not-has_begun.false) c.refuse.ensures c.in-None.ensures s

pub returns-in_ok-push-in-Some : goal.returns-in_ok-push-in-Some
returns-in_ok-push-in-Some c text s =
    let fits : FitsSigned w64 c.in-Some.x = search rules in
    let ok = simp to_z-of_z at c.in_ok-push-in-Some.ensures.ok in
    let new : Words = record { alloc = c.args.self.now.alloc; numbers = c.push.new.self; count = c.args.self.now.count + 1; bad = c.args.self.now.bad } in
    closed_number text c.args.self.now new c.args.word c.in-Some.x (sym c.has_begun.ensures ∙ c.if-not-has_begun.false) refl c.in-Some.ensures
    (λ numbers h. holds_more numbers c.args.self.now new c.in-Some.x c.if-self-lt-MOST_NUMBERS.true refl ok h) s

pub returns-else-self-lt-MOST_NUMBERS : goal.returns-else-self-lt-MOST_NUMBERS
returns-else-self-lt-MOST_NUMBERS c text s =
    let new : Words = record { alloc = c.args.self.now.alloc; numbers = c.new.result; count = 1048577; bad = c.args.self.now.bad } in
    closed_number text c.args.self.now new c.args.word c.in-Some.x (sym c.has_begun.ensures ∙ c.if-not-has_begun.false) refl c.in-Some.ensures
    (λ numbers h. holds_wide numbers c.args.self.now new c.in-Some.x c.if-self-lt-MOST_NUMBERS.false refl h) s
