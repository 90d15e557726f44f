use Rattle.std.proofs.Common.{arith, ap, sym, ◌∙◌, ◌<◌, subst, length}
use Rattle.msl_core.specs.declared.event.Event.TheVariants as event
use Rattle.msl_core.specs.Worlds.{Places, CanHappen, returned, loan_at}
use Rattle.msl_core.proofs.Applying.{lower, node_there, path_there, back_happens, back_sound, back_done}
use Rattle.msl_core.proofs.world.World.back.Goals as goal

pub index_mut-requires : goal.index_mut-requires
index_mut-requires c =
    let w = c.self.inside.places in let i = c.args.group in let inside : i < length w.items = omega (arith, c.if-i-len.false, c.len.ensures, w.ok.0) in
    let o = lower w.items i c.index.result.now c.index-2.result.now c.in-Some.loan c.self.invariant inside c.index.ensures (sym c.is_over.ensures ∙ c.if-not-is_over.false) c.index-2.ensures c.in-Some.is c.if-loan.true in
    omega (arith, o, inside, w.ok.0)

pub back-requires-clause-node : goal.back-requires-clause-node
back-requires-clause-node c =
    let w = c.self.inside.places in let i = c.args.group in let inside : i < length w.items = omega (arith, c.if-i-len.false, c.len.ensures, w.ok.0) in
    node_there w.items i c.index.result.now c.index-2.result.now c.in-Some.loan c.self.invariant inside c.index.ensures (sym c.is_over.ensures ∙ c.if-not-is_over.false) c.index-2.ensures c.in-Some.is c.if-loan.true
    c.index_mut.result.now c.index_mut.ensures.value

pub back-requires-clause-lent : goal.back-requires-clause-lent
back-requires-clause-lent c =
    let w = c.self.inside.places in let i = c.args.group in let inside : i < length w.items = omega (arith, c.if-i-len.false, c.len.ensures, w.ok.0) in
    path_there w.items i c.index.result.now c.index-2.result.now c.in-Some.loan c.self.invariant inside c.index.ensures (sym c.is_over.ensures ∙ c.if-not-is_over.false) c.index-2.ensures c.in-Some.is c.if-loan.true
    c.index_mut.result.now c.index_mut.ensures.value

pub invariant_of-self-then-loan : goal.invariant_of-self-then-loan
invariant_of-self-then-loan c =
    let w = c.self.inside.places in let i = c.args.group in let inside : i < length w.items = omega (arith, c.if-i-len.false, c.len.ensures, w.ok.0) in
    back_sound w.items i c.index.result.now c.index-2.result.now c.in-Some.loan c.self.invariant inside c.index.ensures (sym c.is_over.ensures ∙ c.if-not-is_over.false) c.index-2.ensures c.in-Some.is c.if-loan.true
    c.index_mut.result.now c.index_mut-in-Some.result.now c.back.new.self c.index_mut.ensures.value c.in_ok-back-in-Some.ensures.ok c.index_mut-in-Some.ensures.value

pub returns-in_ok-back-in-Some : goal.returns-in_ok-back-in-Some
returns-in_ok-back-in-Some c =
    let w = c.self.inside.places in let i = c.args.group in let inside : i < length w.items = omega (arith, c.if-i-len.false, c.len.ensures, w.ok.0) in
    let can = back_happens w.items i c.index.result.now c.index-2.result.now c.in-Some.loan c.self.invariant inside c.index.ensures (sym c.is_over.ensures ∙ c.if-not-is_over.false) c.index-2.ensures c.in-Some.is c.if-loan.true in
    let done = back_done w.items i c.index.result.now c.index-2.result.now c.in-Some.loan c.self.invariant inside c.index.ensures (sym c.is_over.ensures ∙ c.if-not-is_over.false) c.index-2.ensures c.in-Some.is c.if-loan.true
    c.index_mut.result.now c.index_mut-in-Some.result.now c.back.new.self c.index_mut.ensures.value c.in_ok-back-in-Some.ensures.ok c.index_mut-in-Some.ensures.value in
    (subst (λ (v : Places). CanHappen v (event.Back i)) c.self.view_is can, done ∙ ap (λ (v : Places). returned v i (loan_at v i)) c.self.view_is)
