use Rattle.std.proofs.Common.{rules, ◌≡◌, ◌+◌, ◌<◌, ℤ, List, [], ◌∷◌, ◌++◌, drop, length, slice_index_or, vec_len, refl, sym, ap, ap₂, ◌∙◌, arith, length-append}
use Rattle.std.specs.Global.{Vec}
use Rattle.std.proofs.lemmas.List.{append-nil, append_assoc}
use Rattle.msl_local.specs.Folds.{all_of}
use Rattle.msl_local.proofs.hands.in_order.Goals as goal

-- the parts of the first hand, and of the others
first : (left : List (Vec (Vec ℤ))) (hand : Vec (Vec ℤ)) → 0 < length left → hand ≡ slice_index_or left 0 hand → all_of left ≡ hand.items ++ all_of (drop 1 left)
first [] hand some is = absurd (omega (arith, some))
first (v ∷ vs) hand some is = ap (λ (w : Vec (Vec ℤ)). w.items ++ all_of vs) (sym is)

empty : (left : List (Vec (Vec ℤ))) → length left ≡ 0 → left ≡ []
empty [] e = refl
empty (v ∷ vs) e = absurd (omega (arith, e))

pub loop-left-init : goal.loop-left-init
loop-left-init c = record { so_far = ap (λ xs. xs ++ all_of c.args.hands.items) c.requires.none; room = c.requires.room }

pub unwrap-requires : goal.unwrap-requires
unwrap-requires c =
    let left = c.loop-left.left in
    let some : 0 < length left.items = search rules in
    let e = first left.items c.remove-hand.result some c.remove-hand.ensures.value in
    let long : length c.loop-left.all.items + length (all_of left.items) ≡ length (all_of c.args.hands.items) = sym (length-append c.loop-left.all.items (all_of left.items)) ∙ ap length c.loop-left.invariant.so_far in
    let mine : length (all_of left.items) ≡ length c.remove-hand.result.items + length (all_of (drop 1 left.items)) = ap length e ∙ length-append c.remove-hand.result.items (all_of (drop 1 left.items)) in
    let all : vec_len c.loop-left.all ≡ length c.loop-left.all.items = search rules in
    let hand : vec_len c.remove-hand.result ≡ length c.remove-hand.result.items = search rules in
    c.append.ensures.succeeds (omega (arith, long, mine, all, hand, c.loop-left.invariant.room))

pub loop-left-preserved : goal.loop-left-preserved
loop-left-preserved c =
    let left = c.loop-left.left in
    let some : 0 < length left.items = search rules in
    let e = first left.items c.remove-hand.result some c.remove-hand.ensures.value in
    let moved : c.append.new.self.items ≡ c.loop-left.all.items ++ c.remove-hand.result.items = search rules in
    let rest : c.remove-hand.new.self.items ≡ drop 1 left.items = search rules in
    record {
      so_far = ap₂ (λ xs ys. xs ++ all_of ys) moved rest ∙ append_assoc c.loop-left.all.items c.remove-hand.result.items (all_of (drop 1 left.items)) ∙ ap (λ xs. c.loop-left.all.items ++ xs) (sym e) ∙ c.loop-left.invariant.so_far;
      room = omega (arith, c.append.ensures.capacity, c.loop-left.invariant.room);
    }

pub returns : goal.returns
returns c =
    let no : length c.loop-left.left.items ≡ 0 = search rules in
    let none : c.loop-left.left.items ≡ [] = empty c.loop-left.left.items no in
    sym (append-nil c.loop-left.all.items) ∙ ap (λ ys. c.loop-left.all.items ++ all_of ys) (sym none) ∙ c.loop-left.invariant.so_far
