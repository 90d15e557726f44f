-- What a move at one node does to the four cases of the token, and why the group is quiet where they end.
use Rattle.std.proofs.Common.{◌≡◌, ℕ, suc, ◌<◌, Bool, true, false, ◌||◌, List, length, get_or, set, take, drop, pos, ◌+ℤ◌, ◌<ℤ◌, ◌≤ℤ◌, Option, Some, None, sym, refl, ap, ◌∙◌, subst, arith, length-set, get_or-set_same, get_or-set_other, lt_of_not-le}
use mathlib.Core.Logic.{dite}
use native.Mathlib.Decide.{ℕ_discrete, dec_le}
use Rattle.std.proofs.lemmas.Int.{ints}
use Rattle.msl_core.specs.Groups.{Path, Node, Group, full, total, surpluses, idle, node_at, mail_at, Passive, Ends, white, Safe, behind, under_way, node_black, token_black, Quiet, Kept}
use Rattle.msl_core.proofs.Totals.{total_one, before-set, before-else, before-step, behind-else, behind-step, surpluses-cut}

pub not_both : {P : Type 0} (b : Bool) → b ≡ true → b ≡ false → P
not_both b p q = absurd (cc)

pub busy_if : (x : Node) → 0 < length x.held → ¬ (Passive x)
busy_if x h p = let e = ap length p.0 in absurd (omega arith)

-- a node that isn't passive sends one more or none
pub safe_busy : (g : Group) (i : ℕ) (w : Node) (m : List (Option Path)) → Safe g → i < length g.nodes → ¬ (Passive (node_at g i)) → (node_at g i).surplus ≤ℤ w.surplus → w.black ≡ (node_at g i).black
    → Safe (record g { nodes = set g.nodes i w; mails = m })
safe_busy g i w m (behind calm sums) inside busy more same_black = dite (dec_le i g.at)
    (λ le. behind (λ j above l. let same_length = length-set g.nodes i w in subst Passive (sym (get_or-set_other g.nodes i j w idle (λ e. absurd (omega arith)))) (calm j above (omega arith)))
    (sums ∙ sym (behind-else g.nodes (suc g.at) i w (omega arith))))
    (λ gt. absurd (busy (calm i (lt_of_not-le gt) inside)))
safe_busy g i w m (under_way more_sent) inside busy more same_black = dite (dec_le i g.at)
    (λ le. let b = before-set g.nodes (suc g.at) i w (omega arith) inside in under_way (omega (arith, ints)))
    (λ gt. let gt' = lt_of_not-le gt in let b = before-else g.nodes (suc g.at) i w (omega arith) in under_way (omega (arith, ints)))
safe_busy g i w m (node_black j low is) inside busy more same_black = node_black j low (dite (ℕ_discrete j i)
    (λ e. let b : (get_or (set g.nodes i w) j idle).black ≡ w.black = ap (λ (x : Node). x.black) (ap (λ (z : ℕ). get_or (set g.nodes i w) z idle) e ∙ get_or-set_same g.nodes i w idle inside) in
    b ∙ (same_black ∙ (ap (λ (z : ℕ). (node_at g z).black) (sym e) ∙ is)))
    (λ n. ap (λ (x : Node). x.black) (get_or-set_other g.nodes i j w idle n) ∙ is))
safe_busy g i w m (token_black is) inside busy more same_black = token_black is

-- a node behind the token gets a path
got_behind : (g : Group) (i : ℕ) (w : Node) (m : List (Option Path)) → Kept g → g.at < i → 0 < total full g.mails → Safe g → Safe (record g { nodes = set g.nodes i w; mails = m })
got_behind g i w m r gt some_mail (behind calm sums) = let a = surpluses-cut g.nodes (suc g.at) in let f = r.flow in
    let c = before-else g.nodes (suc g.at) i w (omega arith) in under_way (omega (arith, ints))
got_behind g i w m r gt some_mail (under_way more) = let c = before-else g.nodes (suc g.at) i w (omega arith) in under_way (omega (arith, ints))
got_behind g i w m r gt some_mail (node_black j low is) = node_black j low (ap (λ (x : Node). x.black) (get_or-set_other g.nodes i j w idle (λ e. absurd (omega arith))) ∙ is)
got_behind g i w m r gt some_mail (token_black is) = token_black is

-- a node gets a path and turns black
pub safe_got : (g : Group) (i : ℕ) (w : Node) (m : List (Option Path)) → Kept g → Safe g → i < length g.nodes → w.black ≡ true → 0 < total full g.mails → Safe (record g { nodes = set g.nodes i w; mails = m })
safe_got g i w m r s inside black some_mail = dite (dec_le i g.at)
    (λ le. node_black i le (ap (λ (x : Node). x.black) (get_or-set_same g.nodes i w idle inside) ∙ black))
    (λ gt. got_behind g i w m r (lt_of_not-le gt) some_mail s)

or_left : (a b : Bool) → a ≡ true → (a || b) ≡ true
or_left true b e = refl
or_left false b e = absurd (cc)

or_right : (a b : Bool) → b ≡ true → (a || b) ≡ true
or_right true b e = refl
or_right false b e = e

abbrev passed : Group → ℕ → ℕ → Group
passed g i t = record g { nodes = set g.nodes i (white (node_at g i)); at = t; tally = g.tally +ℤ (node_at g i).surplus; black = g.black || (node_at g i).black }

-- the token goes from i to t, the node before it
pub safe_pass : (g : Group) (i t : ℕ) → i ≡ g.at → i ≡ suc t → i < length g.nodes → Passive (node_at g i) → Safe g → Safe (passed g i t)
safe_pass g i t at back inside still (behind calm sums) = let x : Node = node_at g i in let w : Node = white x in let l : List Node = set g.nodes i w in let same_length = length-set g.nodes i w in
    let here = get_or-set_same g.nodes i w idle inside in
    let a = behind-step l i (omega arith) in let c = behind-else g.nodes (suc i) i w (omega arith) in
    let s : (get_or l i idle).surplus ≡ x.surplus = ap (λ (y : Node). y.surplus) here in
    let old : g.tally ≡ surpluses (drop (suc i) g.nodes) = subst (λ (z : ℕ). g.tally ≡ surpluses (drop (suc z) g.nodes)) (sym at) sums in
    behind (λ j above l'. dite (ℕ_discrete j i)
    (λ e. subst (λ (z : ℕ). Passive (get_or l z idle)) (sym e) (subst Passive (sym here) still))
    (λ n. subst Passive (sym (get_or-set_other g.nodes i j w idle n)) (calm j (omega arith) (omega arith))))
    (subst (λ (z : ℕ). (g.tally +ℤ x.surplus) ≡ surpluses (drop z l)) back (omega (arith, ints)))
safe_pass g i t at back inside still (under_way more) = let x : Node = node_at g i in let w : Node = white x in let l : List Node = set g.nodes i w in
    let c = before-step g.nodes i inside in let a = before-else g.nodes i i w (omega arith) in
    let more' : pos 0 <ℤ (surpluses (take (suc i) g.nodes) +ℤ g.tally) = subst (λ (z : ℕ). pos 0 <ℤ (surpluses (take (suc z) g.nodes) +ℤ g.tally)) (sym at) more in
    let m : pos 0 <ℤ (surpluses (take i l) +ℤ (g.tally +ℤ x.surplus)) = omega (arith, ints) in
    under_way (subst (λ (z : ℕ). pos 0 <ℤ (surpluses (take z l) +ℤ (g.tally +ℤ x.surplus))) back m)
safe_pass g i t at back inside still (node_black j low is) = dite (ℕ_discrete j i)
    (λ e. token_black (or_right g.black (node_at g i).black (ap (λ (z : ℕ). (node_at g z).black) (sym e) ∙ is)))
    (λ n. node_black j (omega arith) (ap (λ (x : Node). x.black) (get_or-set_other g.nodes i j (white (node_at g i)) idle n) ∙ is))
safe_pass g i t at back inside still (token_black is) = token_black (or_left g.black (node_at g i).black is)

no_mail : (o : Option Path) → full o ≡ 0 → o ≡ None
no_mail None e = refl
no_mail (Some p) e = absurd (omega arith)

-- where the token ends its round, only the first case is left, and it says that all is quiet
pub quiet_now : (g : Group) → Kept g → g.at ≡ 0 → Ends g → Safe g → Quiet g
quiet_now g r at e (behind calm sums) = let h = r.token_there in let inside : 0 < length g.nodes = omega arith in let m = r.one_mail_each in let x : Node = node_at g 0 in
    let sums' : g.tally ≡ surpluses (drop 1 g.nodes) = subst (λ (z : ℕ). g.tally ≡ surpluses (drop (suc z) g.nodes)) at sums in
    let a : surpluses g.nodes ≡ (x.surplus +ℤ surpluses (drop 1 g.nodes)) = behind-step g.nodes 0 inside in
    let now : (g.tally +ℤ x.surplus) ≡ pos 0 = e.3 in let flow = r.flow in
    let none : total full g.mails ≡ 0 = omega (arith, ints) in (
      (λ i l. dite (ℕ_discrete i 0) (λ z. subst (λ (k : ℕ). Passive (node_at g k)) (sym z) e.0) (λ n. calm i (omega arith) l)),
      λ i l. no_mail (mail_at g i) (let o = total_one None full g.mails i l in omega arith),
    )
quiet_now g r at e (under_way more) = let h = r.token_there in let inside : 0 < length g.nodes = omega arith in let x : Node = node_at g 0 in
    let more' : pos 0 <ℤ (surpluses (take 1 g.nodes) +ℤ g.tally) = subst (λ (z : ℕ). pos 0 <ℤ (surpluses (take (suc z) g.nodes) +ℤ g.tally)) at more in
    let a : surpluses (take 1 g.nodes) ≡ (surpluses (take 0 g.nodes) +ℤ x.surplus) = before-step g.nodes 0 inside in let now : (g.tally +ℤ x.surplus) ≡ pos 0 = e.3 in
    absurd (omega (arith, ints))
quiet_now g r at e (node_black j low is) = not_both (node_at g 0).black (ap (λ (z : ℕ). (node_at g z).black) (let z : 0 ≡ j = omega arith in z) ∙ is) e.1
quiet_now g r at e (token_black is) = not_both g.black is e.2
