use Rattle.std.proofs.Common.{◌++◌, [], ◌∷◌, Ok, Option, ap, sym, ◌∙◌, subst}
use Rattle.msl_base.specs.declared.rec.Rec.{Rec}
use Rattle.msl_base.specs.Streams.{Record, Stream}
use Rattle.msl_io.specs.Reader.{Reader}
use Rattle.msl_demo.specs.Reading.{Comes, HasCome}
use Rattle.msl_demo.specs.Tallies.{IsTallyOf, MayCount}
use Rattle.msl_demo.proofs.Reading.{may_count, went_on}
use Rattle.msl_demo.proofs.count.tally_of.Goals as goal

pub count-requires : goal.count-requires
count-requires c =
    let inv = c.records.invariant.counted in
    let is = c.in_ok-rec.was ∙ ap (λ (o : Option Rec). Ok o) c.in-Some.is in
    let comes = subst (Comes c.args.text inv.0 c.records.reader c.next_record.new.reader c.next_record.new.src) is (c.next_record.ensures c.args.text inv.0 inv.1) in
    subst (MayCount c.records.tally) (sym c.as_slice.ensures) (may_count c.args.text inv.0 c.in-Some.rec.numbers c.records.tally c.requires.few comes.1 inv.2)

pub records-smaller : goal.records-smaller
records-smaller c =
    let inv = c.records.invariant.counted in
    let is = c.in_ok-rec.was ∙ ap (λ (o : Option Rec). Ok o) c.in-Some.is in
    let comes = subst (Comes c.args.text inv.0 c.records.reader c.next_record.new.reader c.next_record.new.src) is (c.next_record.ensures c.args.text inv.0 inv.1) in
    went_on c.records.reader c.next_record.new.reader c.reuse.new.self c.reuse.ensures comes.2 comes.0.within inv.1.lines comes.0.lines

pub records-preserved : goal.records-preserved
records-preserved c =
    let inv = c.records.invariant.counted in
    let is = c.in_ok-rec.was ∙ ap (λ (o : Option Rec). Ok o) c.in-Some.is in
    let comes = subst (Comes c.args.text inv.0 c.records.reader c.next_record.new.reader c.next_record.new.src) is (c.next_record.ensures c.args.text inv.0 inv.1) in
    let front = inv.0 ++ c.in-Some.rec.numbers ∷ [] in
    record {
      counted = (
        front,
        subst (λ (r : Reader). HasCome c.args.text front r c.next_record.new.src) (sym c.reuse.ensures) comes.0,
        subst (λ (x : Record). IsTallyOf (inv.0 ++ x ∷ []) c.count.new.self) c.as_slice.ensures (c.count.ensures inv.0 inv.2),
      );
    }

pub returns-in-None : goal.returns-in-None
returns-in-None c =
    let inv = c.records.invariant.counted in
    let is = c.in_ok-rec.was ∙ ap (λ (o : Option Rec). Ok o) c.in-None.is in
    let over = subst (Comes c.args.text inv.0 c.records.reader c.next_record.new.reader c.next_record.new.src) is (c.next_record.ensures c.args.text inv.0 inv.1) in
    subst (λ (X : Stream). IsTallyOf X.records c.records.tally) (sym over) inv.2
