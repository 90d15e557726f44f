-- Each move keeps the facts of a group.
use Rattle.std.proofs.Common.{◌≡◌, ℕ, zero, suc, ◌+◌, ◌-◌, ◌<◌, ◌≤◌, eqb, Bool, true, false, cond, List, [], ◌∷◌, ◌++◌, length, get_or, set, replicate, ℤ, pos, Option, Some, None, sym, refl, ap, ◌∙◌, subst, arith, length-set, length-append, eq-eqb, ne_eqb}
use mathlib.Core.Logic.{dite}
use native.Mathlib.Decide.{ℕ_discrete}
use Rattle.std.proofs.lemmas.Int.{ints}
use Rattle.std.specs.Str.{bytes_eq}
use Rattle.msl_base.specs.Covers as covers
use Rattle.msl_base.specs.Covers.{children, all_children, split_paths, split}
use Rattle.msl_core.specs.declared.event.Move.{Move}
use Rattle.msl_core.specs.declared.event.Move.TheVariants.{Split, Shut, Post, Take, Pass, Probe, Over}
use Rattle.msl_core.specs.Groups.{Path, Node, Group, once, often, total, surpluses, once_in, full, idle, node_at, mail_at, older, newest, oldest, lent_out, Passive, Enabled, split_node, shut_node, post_node, take_node, white, lend_node, back_node, with_node, took, after, leaves_of, children_of, parents_of, Safe, behind, token_black, first_of, Counted, Kept, first_node, rooted, new_group}
use Rattle.msl_core.proofs.Counts.{by_test, often-append, often_off, length_off, often_first, length_newer, once_yes, once_no, children-snoc, parents-snoc, length-children, length_children-snoc}
use Rattle.msl_core.proofs.Totals.{total-append, total-set, total_one, surpluses-set, behind-none, born_once, at_places}
use Rattle.msl_core.proofs.Tokens.{not_both, busy_if, safe_busy, safe_got, safe_pass, quiet_now}

counts_after : (g : Group) (i : ℕ) (w : Node) → i < length g.nodes → Counted (first_of g i) w → ((j : ℕ) → j < length g.nodes → Counted (first_of g j) (node_at g j)) → (j : ℕ) → j < length (set g.nodes i w) → Counted (first_of g j) (get_or (set g.nodes i w) j idle)
counts_after g i w inside here all = at_places idle (λ j y. Counted (first_of g j) y) g.nodes i w inside here (λ j n l. all j l)

-- a node that isn't passive changes what it has, and sends nothing
keeps_busy : (g : Group) (i : ℕ) (w : Node) → Kept g → g.over ≡ false → i < length g.nodes → ¬ (Passive (node_at g i)) → w.surplus ≡ (node_at g i).surplus → w.black ≡ (node_at g i).black
    → ((p : Path) → leaves_of p w + parents_of p w + children_of p (node_at g i) ≡ leaves_of p (node_at g i) + parents_of p (node_at g i) + children_of p w)
    → ((p : Path) → total (parents_of p) (set g.nodes i w) ≤ 1) → Counted (first_of g i) w → Kept (with_node g i w)
keeps_busy g i w r live inside busy surplus black balanced once_split counted = let same_length = length-set g.nodes i w in record {
  some_node = (let h = r.some_node in omega arith);
  one_mail_each = (let h = r.one_mail_each in omega arith);
  token_there = (let h = r.token_there in omega arith);
  flow = (let a = surpluses-set g.nodes i w inside in let h = r.flow in omega (arith, ints));
  safe = λ o. safe_busy g i w g.mails (r.safe o) inside busy (omega (arith, ints)) black;
  balance = λ p. let h = r.balance p in let a = total-set idle (children_of p) g.nodes i w inside in let b = total-set idle (leaves_of p) g.nodes i w inside in let c = total-set idle (parents_of p) g.nodes i w inside in let d = balanced p in omega arith;
  distinct = once_split;
  counts = counts_after g i w inside counted r.counts;
  quiet = λ o. not_both g.over o live;
}

-- the same where it splits nothing
keeps_leaves : (g : Group) (i : ℕ) (w : Node) → Kept g → g.over ≡ false → i < length g.nodes → ¬ (Passive (node_at g i)) → w.surplus ≡ (node_at g i).surplus → w.black ≡ (node_at g i).black → w.splits ≡ (node_at g i).splits
    → ((p : Path) → leaves_of p w ≡ leaves_of p (node_at g i)) → length w.held + lent_out w + length w.shut ≡ length (node_at g i).held + lent_out (node_at g i) + length (node_at g i).shut → Kept (with_node g i w)
keeps_leaves g i w r live inside busy surplus black splits leaves lengths = keeps_busy g i w r live inside busy surplus black
    (λ p. let a : children_of p w ≡ children_of p (node_at g i) = ap (λ ss. often p (all_children ss)) splits in let b : parents_of p w ≡ parents_of p (node_at g i) = ap (λ ss. often p (split_paths ss)) splits in let c = leaves p in omega arith)
    (λ p. let h = r.distinct p in let c = total-set idle (parents_of p) g.nodes i w inside in let b : parents_of p w ≡ parents_of p (node_at g i) = ap (λ ss. often p (split_paths ss)) splits in omega arith)
    (let h = r.counts i inside in let a = ap length splits in let b = ap (λ ss. length (all_children ss)) splits in omega (arith, ints))

keeps_split : (g : Group) (i k : ℕ) → Kept g → Enabled g (Split i k) → Kept (after g (Split i k))
keeps_split g i k r e = let x : Node = node_at g i in let w : Node = split_node x k in let inside : i < length g.nodes = e.0.1 in let holds : 0 < length x.held = e.0.2 in
    let s : covers.Split = split (newest x.held) k in
    keeps_busy g i w r e.0.0 inside (busy_if x holds) refl refl
    (λ p. let d = children-snoc p x.splits s in let f = parents-snoc p x.splits s in let o = often_off p x.held holds in let t = often-append p (older x.held) (children (newest x.held) k) in omega arith)
    (λ p. let h = r.distinct p in let c = total-set idle (parents_of p) g.nodes i w inside in let f = parents-snoc p x.splits s in by_test (bytes_eq p (newest x.held))
    (λ yes. let one = once_yes p (newest x.held) yes in let o = often_off p x.held holds in let l = total_one idle (leaves_of p) g.nodes i inside in let born = born_once g r.distinct p in let bal = r.balance p in omega arith)
    (λ no. let none = once_no p (newest x.held) no in omega arith))
    (let h = r.counts i inside in let a = length_off x.held holds in let b = length-append (older x.held) (children (newest x.held) k) in let c = length-children (newest x.held) k in let d = length_children-snoc x.splits s in let f = length-append x.splits (s ∷ []) in omega (arith, ints))

keeps_shut : (g : Group) (i : ℕ) → Kept g → Enabled g (Shut i) → Kept (after g (Shut i))
keeps_shut g i r e = let x : Node = node_at g i in let holds : 0 < length x.held = e.2 in keeps_leaves g i (shut_node x) r e.0 e.1 (busy_if x holds) refl refl refl
    (λ p. let o = often_off p x.held holds in let t = often-append p x.shut (newest x.held ∷ []) in omega arith)
    (let a = length_off x.held holds in let f = length-append x.shut (newest x.held ∷ []) in omega arith)

pub keeps_lend : (g : Group) (i : ℕ) → Kept g → g.over ≡ false → i < length g.nodes → 0 < length (node_at g i).held → Kept (with_node g i (lend_node (node_at g i)))
keeps_lend g i r live inside holds = let x : Node = node_at g i in keeps_leaves g i (lend_node x) r live inside (busy_if x holds) refl refl refl
    (λ p. let a = often_off p x.held holds in let b = total-append (once_in p) x.lent (Some (newest x.held) ∷ []) in omega arith)
    (let a = length_off x.held holds in let b = total-append full x.lent (Some (newest x.held) ∷ []) in omega arith)

pub keeps_back : (g : Group) (i j : ℕ) (p : Path) → Kept g → i < length g.nodes → j < length (node_at g i).lent → get_or (node_at g i).lent j None ≡ Some p → Kept (with_node g i (back_node (node_at g i) j p))
keeps_back g i j p r inside lent is = let x : Node = node_at g i in
    let one : full (get_or x.lent j None) ≡ 1 = ap full is in
    let busy : ¬ (Passive x) = (λ q. let z = q.1 in let o = total_one None full x.lent j lent in absurd (omega arith)) in
    let live : g.over ≡ false = by_test g.over (λ o. absurd (busy ((r.quiet o).0 i inside))) (λ f. f) in
    keeps_leaves g i (back_node x j p) r live inside busy refl refl refl
    (λ q. let a = total-set None (once_in q) x.lent j None lent in let c : once_in q (get_or x.lent j None) ≡ once q p = ap (once_in q) is in let b = often-append q x.shut (p ∷ []) in omega arith)
    (let a = total-set None full x.lent j None lent in let b = length-append x.shut (p ∷ []) in omega arith)

keeps_post : (g : Group) (i to : ℕ) → Kept g → Enabled g (Post i to) → Kept (after g (Post i to))
keeps_post g i to r e = let x : Node = node_at g i in let w : Node = post_node x in let inside : i < length g.nodes = e.0.1 in let inside' : to < length g.nodes = e.2 in let empty : mail_at g to ≡ None = e.3 in
    let holds : 0 < length x.held = e.0.2 in let same_length = length-set g.nodes i w in let p0 : Path = oldest x.held in let same_mails = length-set g.mails to (Some p0) in let m = r.one_mail_each in let there : to < length g.mails = omega arith in record {
      some_node = (let h = r.some_node in omega arith);
      one_mail_each = omega arith;
      token_there = (let h = r.token_there in omega arith);
      flow = (let a = surpluses-set g.nodes i w inside in let h = r.flow in let c = total-set None full g.mails to (Some p0) there in let z : full (mail_at g to) ≡ 0 = ap full empty in omega (arith, ints));
      safe = λ o. safe_busy g i w (set g.mails to (Some p0)) (r.safe o) inside (busy_if x holds) (omega (arith, ints)) refl;
      balance = λ p. let h = r.balance p in let a = total-set idle (children_of p) g.nodes i w inside in let b = total-set idle (leaves_of p) g.nodes i w inside in let c = total-set idle (parents_of p) g.nodes i w inside in
          let o = often_first p x.held holds in let d = total-set None (once_in p) g.mails to (Some p0) there in let z : once_in p (mail_at g to) ≡ 0 = ap (once_in p) empty in omega arith;
      distinct = λ p. let h = r.distinct p in let c = total-set idle (parents_of p) g.nodes i w inside in omega arith;
      counts = counts_after g i w inside (let h = r.counts i inside in let a = length_newer x.held holds in omega (arith, ints)) r.counts;
      quiet = λ o. not_both g.over o e.0.0;
    }

keeps_took : (g : Group) (i : ℕ) (o : Option Path) → mail_at g i ≡ o → Kept g → Enabled g (Take i) → Kept (took g i o)
keeps_took g i None none r e = r
keeps_took g i (Some p0) is r e = let x : Node = node_at g i in let w : Node = take_node x p0 in let inside : i < length g.nodes = e.1 in let same_length = length-set g.nodes i w in let same_mails = length-set g.mails i None in let m = r.one_mail_each in let there : i < length g.mails = omega arith in
    let z : full (mail_at g i) ≡ 1 = e.2 in record {
      some_node = (let h = r.some_node in omega arith);
      one_mail_each = omega arith;
      token_there = (let h = r.token_there in omega arith);
      flow = (let a = surpluses-set g.nodes i w inside in let h = r.flow in let c = total-set None full g.mails i None there in omega (arith, ints));
      safe = λ o. safe_got g i w (set g.mails i None) r (r.safe o) inside refl (let c = total_one None full g.mails i there in omega arith);
      balance = λ p. let h = r.balance p in let a = total-set idle (children_of p) g.nodes i w inside in let b = total-set idle (leaves_of p) g.nodes i w inside in let c = total-set idle (parents_of p) g.nodes i w inside in
          let o = often-append p x.held (p0 ∷ []) in let d = total-set None (once_in p) g.mails i None there in let y : once_in p (mail_at g i) ≡ once p p0 = ap (once_in p) is in omega arith;
      distinct = λ p. let h = r.distinct p in let c = total-set idle (parents_of p) g.nodes i w inside in omega arith;
      counts = counts_after g i w inside (let h = r.counts i inside in let a = length-append x.held (p0 ∷ []) in omega (arith, ints)) r.counts;
      quiet = λ o. not_both g.over o e.0;
    }

-- the sums of a group whose node i turns white stay
turned_white : (f : Node → ℕ) (g : Group) (i : ℕ) → i < length g.nodes → f (white (node_at g i)) ≡ f (node_at g i) → total f (set g.nodes i (white (node_at g i))) ≡ total f g.nodes
turned_white f g i inside e = let a = total-set idle f g.nodes i (white (node_at g i)) inside in omega arith

-- a turn to white, and what the token knows after it
keeps_white : (g : Group) (i t : ℕ) (q : ℤ) (b : Bool) → Kept g → g.over ≡ false → i < length g.nodes → t < length g.nodes → Safe (record g { nodes = set g.nodes i (white (node_at g i)); at = t; tally = q; black = b })
    → Kept (record g { nodes = set g.nodes i (white (node_at g i)); at = t; tally = q; black = b })
keeps_white g i t q b r live inside there safe = let x : Node = node_at g i in let w : Node = white x in let same_length = length-set g.nodes i w in record {
  some_node = (let h = r.some_node in omega arith);
  one_mail_each = (let h = r.one_mail_each in omega arith);
  token_there = omega arith;
  flow = (let a = surpluses-set g.nodes i w inside in let h = r.flow in omega (arith, ints));
  safe = λ o. safe;
  balance = λ p. let h = r.balance p in let a = turned_white (children_of p) g i inside refl in let b = turned_white (leaves_of p) g i inside refl in let c = turned_white (parents_of p) g i inside refl in omega arith;
  distinct = λ p. let h = r.distinct p in let c = turned_white (parents_of p) g i inside refl in omega arith;
  counts = counts_after g i w inside (r.counts i inside) r.counts;
  quiet = λ o. not_both g.over o live;
}

keeps_pass : (g : Group) (i : ℕ) → Kept g → Enabled g (Pass i) → Kept (after g (Pass i))
keeps_pass g i r e = let at : i ≡ g.at = e.1 in let high : 0 < i = e.2 in let h = r.token_there in let inside : i < length g.nodes = omega arith in
    keeps_white g i (i - 1) _ _ r e.0 inside (omega arith) (safe_pass g i (i - 1) at (omega arith) inside e.3 (r.safe e.0))

keeps_probe : (g : Group) → Kept g → Enabled g Probe → Kept (after g Probe)
keeps_probe g r e = let h = r.token_there in let n : ℕ = length g.nodes in let w : Node = white (node_at g 0) in let l : List Node = set g.nodes 0 w in let inside : 0 < n = omega arith in let same_length = length-set g.nodes 0 w in
    keeps_white g 0 (n - 1) (pos 0) false r e.0 inside (omega arith) (behind (λ j above l'. absurd (omega arith)) (sym (behind-none l (suc (n - 1)) (omega arith))))

keeps_over : (g : Group) → Kept g → Enabled g Over → Kept (after g Over)
keeps_over g r e = record {
  some_node = r.some_node;
  one_mail_each = r.one_mail_each;
  token_there = r.token_there;
  flow = r.flow;
  safe = λ o. absurd (cc);
  balance = r.balance;
  distinct = r.distinct;
  counts = r.counts;
  quiet = λ _. quiet_now g r e.1 e.2 (r.safe e.0);
}

pub keeps_each : (g : Group) (m : Move) → Kept g → Enabled g m → Kept (after g m)
keeps_each g (Split i k) = keeps_split g i k
keeps_each g (Shut i) = keeps_shut g i
keeps_each g (Post i to) = keeps_post g i to
keeps_each g (Take i) = keeps_took g i (mail_at g i) refl
keeps_each g (Pass i) = keeps_pass g i
keeps_each g Probe = keeps_probe g
keeps_each g Over = keeps_over g

-- ---- a new group

pub length-rooted : (n s i : ℕ) → length (rooted n s i) ≡ n
length-rooted zero s i = refl
length-rooted (suc n) s i = let r = length-rooted n s (suc i) in omega arith

total_rooted : (f : Node → ℕ) → f idle ≡ 0 → (n s i : ℕ) → (s < i → total f (rooted n s i) ≡ 0) × (i ≤ s → s < i + n → total f (rooted n s i) ≡ f (first_node true))
total_rooted f z zero s i = ((λ _. refl), λ a b. absurd (omega arith))
total_rooted f z (suc n) s i = let r = total_rooted f z n s (suc i) in (
  (λ l. let h = r.0 (omega arith) in let e : f (first_node (eqb i s)) ≡ 0 = subst (λ (b : Bool). f (first_node b) ≡ 0) (sym (ne_eqb i s (λ e. absurd (omega arith)))) z in omega arith),
  λ a b. dite (ℕ_discrete i s)
      (λ is. let h = r.0 (omega arith) in let e : f (first_node (eqb i s)) ≡ f (first_node true) = ap (λ (c : Bool). f (first_node c)) (eq-eqb i s is) in omega arith)
      (λ not. let h = r.1 (omega arith) (omega arith) in let e : f (first_node (eqb i s)) ≡ 0 = subst (λ (b : Bool). f (first_node b) ≡ 0) (sym (ne_eqb i s not)) z in omega arith),
)

no_surplus : (n s i : ℕ) → surpluses (rooted n s i) ≡ pos 0
no_surplus zero s i = refl
no_surplus (suc n) s i = let r = no_surplus n s (suc i) in omega (arith, ints)

no_mails : (f : Option Path → ℕ) → f None ≡ 0 → (n : ℕ) → total f (replicate n None) ≡ 0
no_mails f z zero = refl
no_mails f z (suc n) = let r = no_mails f z n in omega arith

length_none : (n : ℕ) → length (replicate {A = Option Path} n None) ≡ n
length_none zero = refl
length_none (suc n) = let r = length_none n in omega arith

counted_start : (b : Bool) → Counted (cond b 1 0) (first_node b)
counted_start true = refl
counted_start false = refl

pub rooted_at : (n s i j : ℕ) → j < n → get_or (rooted n s i) j idle ≡ first_node (eqb (i + j) s)
rooted_at zero s i j h = absurd (omega arith)
rooted_at (suc n) s i zero h = ap (λ (k : ℕ). first_node (eqb k s)) (let e : i ≡ i + 0 = omega arith in e)
rooted_at (suc n) s i (suc j) h = rooted_at n s (suc i) j (omega arith) ∙ ap (λ (k : ℕ). first_node (eqb k s)) (let e : suc i + j ≡ i + suc j = omega arith in e)

rooted-snoc : (n s i : ℕ) → rooted (suc n) s i ≡ rooted n s i ++ first_node (eqb (i + n) s) ∷ []
rooted-snoc zero s i = ap (λ (k : ℕ). first_node (eqb k s) ∷ []) (let e : i ≡ i + 0 = omega arith in e)
rooted-snoc (suc n) s i = ap (λ l. first_node (eqb i s) ∷ l) (rooted-snoc n s (suc i) ∙ ap (λ (k : ℕ). rooted n s (suc i) ++ first_node (eqb k s) ∷ []) (let e : suc i + n ≡ i + suc n = omega arith in e))

pub rooted-more : (n m s : ℕ) → m ≡ n + 1 → rooted m s 0 ≡ rooted n s 0 ++ first_node (eqb n s) ∷ []
rooted-more n m s e = ap (λ (k : ℕ). rooted k s 0) (let f : m ≡ suc n = omega arith in f) ∙ rooted-snoc n s 0 ∙ ap (λ (k : ℕ). rooted n s 0 ++ first_node (eqb k s) ∷ []) (let f : 0 + n ≡ n = omega arith in f)

pub begins : (n s : ℕ) → s < n → Kept (new_group n s)
begins n s h = let long = length-rooted n s 0 in let many = length_none n in record {
  some_node = omega arith;
  one_mail_each = omega arith;
  token_there = omega arith;
  flow = (let a = no_surplus n s 0 in let c = no_mails full refl n in omega (arith, ints));
  safe = λ _. token_black refl;
  balance = λ p. let a = (total_rooted (children_of p) refl n s 0).1 (omega arith) (omega arith) in let b = (total_rooted (leaves_of p) refl n s 0).1 (omega arith) (omega arith) in let c = (total_rooted (parents_of p) refl n s 0).1 (omega arith) (omega arith) in let d = no_mails (once_in p) refl n in omega arith;
  distinct = λ p. let c = (total_rooted (parents_of p) refl n s 0).1 (omega arith) (omega arith) in omega arith;
  counts = λ i l. subst (Counted (cond (eqb i s) 1 0)) (sym (rooted_at n s 0 i (omega arith))) (let e : 0 + i ≡ i = omega arith in subst (λ (k : ℕ). Counted (cond (eqb i s) 1 0) (first_node (eqb k s))) (sym e) (counted_start (eqb i s)));
  quiet = λ o. absurd (cc);
}
