use Rattle.std.proofs.Common.{rules, ◌<◌, List, length, sym, ap, ◌∙◌, arith}
use Rattle.std.proofs.lemmas.List.{length-map, with_items_is}
use Rattle.msl_base.specs.Records.{Kept}
use Rattle.msl_fabric.specs.Grids.{IsExchange, records}
use Rattle.msl_fabric.specs.Moves.{block}
use Rattle.msl_fabric.specs.Routes.{goes, many}
use Rattle.msl_fabric.proofs.Grids.{numbers}
use Rattle.msl_fabric.proofs.Rounds.{after_round, round_within}
use Rattle.msl_fabric.proofs.moves.in_rounds.Goals as goal

pub loop-k-preserved : goal.loop-k-preserved
loop-k-preserved g c =
    let inv = c.loop-k.invariant in
    let r = c.args.route.now in
    let left = with_items_is c.loop-k.blocks c.send.new.left (search rules) in
    let moved = with_items_is c.loop-k.moved c.receive.new.moved (search rules) in
    let was = c.as_mut_slice.ensures.value in
    let had = c.as_mut_slice-in-loop-k.ensures.value in
    let swap : IsExchange c.send.new.boxes c.in_ok-boxes-2.boxes = c.in_ok-boxes-2.ensures in
    record {
      side = c.receive.ensures.members ∙ swap.members ∙ c.send.ensures.members ∙ inv.side;
      left = ap length left ∙ c.send.ensures.long ∙ ap length was ∙ inv.left;
      long = ap length moved ∙ c.receive.ensures.long ∙ ap length had ∙ inv.long;
      rest = λ i lt later.
          ap (λ (xs : List Kept). block (records xs) i) left ∙ c.send.ensures.rest i lt (λ turn. omega (arith, turn, later)) ∙ ap (λ (xs : List Kept). block (records xs) i) was
          ∙ inv.rest i lt (omega (arith, later));
      done = λ i lt before.
          ap (λ (xs : List Kept). block (records xs) (goes r i)) moved
          ∙ after_round r c.loop-k.k (records c.args.blocks.items) (records c.loop-k.moved.items) (records c.receive.new.moved) c.send.new.boxes c.in_ok-boxes-2.boxes swap (c.send.ensures.members ∙ inv.side)
          (λ j q turn. c.send.ensures.sent j q turn ∙ ap (λ (xs : List Kept). block (records xs) j) was ∙ inv.rest j q (omega (arith, turn)))
          c.receive.ensures.got
          (λ j q other. c.receive.ensures.rest j q other ∙ ap (λ (xs : List Kept). block (records xs) (goes r j)) had)
          inv.done i lt before;
      stage = inv.stage;
      group = inv.group;
    }

pub returns-clause-lands : goal.returns-clause-lands
returns-clause-lands g c =
    let inv = c.loop-k.invariant in
    let r = c.args.route.now in
    let long = length-map c.args.blocks.items numbers in
    record {
      count = length-map c.loop-k.moved.items numbers ∙ inv.long ∙ sym c.requires ∙ sym long;
      lands = λ i lt. let within : i < many r = omega (arith, lt, long, c.requires) in
          inv.done i within (omega (arith, round_within r i within, c.rounds-k-end.ensures, c.loop-k-test.false));
    }
