-- Each definition of a script fits all of its functions.
use Rattle.std.proofs.Common.{List, [], ◌∷◌, ◌++◌, sym, subst}
use Rattle.std.specs.Prelude.{All}
use Rattle.std.proofs.lemmas.List.Elements.{All-nil, All-push, All-weaker}
use Rattle.msl_program.specs.Script.{Script}
use Rattle.msl_program.specs.Known.{Known, nothing_known}
use Rattle.msl_program.specs.Promises.{FilterFits, DivConFits, SearchFits}
use Rattle.msl_program.specs.ProgramPromise.{ProgramFits}
use Rattle.msl_program.specs.ScriptPromise.{Item, fun_item, data_item, filter_item, divcon_item, bnb_item, with_item, with_items, ItemFits, EachFits, IsScript}
use Rattle.msl_program.proofs.Later.{filter_later, divcon_later, search_later, program_later}

record AllFit (m : Known) : Type 0 where
  datas : All (ProgramFits m.funs) m.datas
  filters : All (FilterFits m.funs) m.filters
  divcons : All (DivConFits m.funs) m.divcons
  bnbs : All (SearchFits m.funs) m.bnbs

one_more : (m : Known) (i : Item) → ItemFits m i → AllFit m → AllFit (with_item m i)
one_more m (fun_item f) h all = record {
  datas = All-weaker (ProgramFits m.funs) (ProgramFits (m.funs ++ f ∷ [])) (program_later m.funs (f ∷ [])) m.datas all.datas;
  filters = All-weaker (FilterFits m.funs) (FilterFits (m.funs ++ f ∷ [])) (filter_later m.funs (f ∷ [])) m.filters all.filters;
  divcons = All-weaker (DivConFits m.funs) (DivConFits (m.funs ++ f ∷ [])) (divcon_later m.funs (f ∷ [])) m.divcons all.divcons;
  bnbs = All-weaker (SearchFits m.funs) (SearchFits (m.funs ++ f ∷ [])) (search_later m.funs (f ∷ [])) m.bnbs all.bnbs;
}
one_more m (data_item d) h all = record { datas = All-push (ProgramFits m.funs) m.datas d all.datas h.1; filters = all.filters; divcons = all.divcons; bnbs = all.bnbs }
one_more m (filter_item f) h all = record { datas = all.datas; filters = All-push (FilterFits m.funs) m.filters f all.filters h.1; divcons = all.divcons; bnbs = all.bnbs }
one_more m (divcon_item d) h all = record { datas = all.datas; filters = all.filters; divcons = All-push (DivConFits m.funs) m.divcons d all.divcons h.1; bnbs = all.bnbs }
one_more m (bnb_item b) h all = record { datas = all.datas; filters = all.filters; divcons = all.divcons; bnbs = All-push (SearchFits m.funs) m.bnbs b all.bnbs h.1 }

all_of : (m : Known) (items : List Item) → EachFits m items → AllFit m → AllFit (with_items m items)
all_of m [] h all = all
all_of m (i ∷ is) h all = all_of (with_item m i) is h.1 (one_more m i h.0 all)

none : AllFit nothing_known
none = record {
  datas = All-nil (ProgramFits []);
  filters = All-nil (FilterFits []);
  divcons = All-nil (DivConFits []);
  bnbs = All-nil (SearchFits []);
}

module _ (s : Script) (h : IsScript s) where
  pub datas_fit : All (ProgramFits s.funs) s.datas
  datas_fit = subst (λ (t : Script). All (ProgramFits t.funs) t.datas) (sym h.is) (all_of nothing_known h.items h.each none).datas

  pub filters_fit : All (FilterFits s.funs) s.filters
  filters_fit = subst (λ (t : Script). All (FilterFits t.funs) t.filters) (sym h.is) (all_of nothing_known h.items h.each none).filters

  pub divcons_fit : All (DivConFits s.funs) s.divcons
  divcons_fit = subst (λ (t : Script). All (DivConFits t.funs) t.divcons) (sym h.is) (all_of nothing_known h.items h.each none).divcons

  pub bnbs_fit : All (SearchFits s.funs) s.bnbs
  bnbs_fit = subst (λ (t : Script). All (SearchFits t.funs) t.bnbs) (sym h.is) (all_of nothing_known h.items h.each none).bnbs
