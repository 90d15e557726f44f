use Rattle.std.proofs.Common.{refl, sym, ◌∙◌, inr}
use Rattle.msl_pool.proofs.Keeping.{none_there}
use Rattle.msl_pool.proofs.member.Member.give.Goals as goal

pub returns-in-Some : goal.returns-in-Some
returns-in-Some g c = inr (record {
  oldest = _;
  was = c.in-Some.ensures.items;
  same_mail = refl;
  empty = none_there c.args.next.now.mail (sym c.is_some.ensures ∙ c.if-is_some.false);
  mailed = refl;
  same_held = refl;
})
