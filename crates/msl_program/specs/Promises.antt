-- What holds of a name, a filter, a division and a search: of the name over the definitions before it, of the others over the functions.
use Rattle.std.specs.Prelude.{◌≡◌, ◌≤◌, IsTrue, ◌+◌, ◌-◌, ◌*◌, false, List, length}
use Rattle.msl_base.specs.declared.limits.TheConstants.{LEAST_PARTS, MOST_CUTOFF, MOST_PARAMS, MOST_PARTS, MOST_STATE}
use Rattle.msl_lex.specs.Names.{is_name}
use Rattle.msl_lex.specs.Spelling.{AreIntegers}
use Rattle.msl_base.specs.Names.{Text}
use Rattle.msl_fun.specs.declared.funs.Fun.{Fun}
use Rattle.msl_fun.specs.Meaning.{params_of, results_of}
use Rattle.msl_program.specs.declared.script.FilterSpec.{FilterSpec}
use Rattle.msl_program.specs.declared.script.DivCon as divcon
use Rattle.msl_program.specs.declared.script.BnbSpec.{BnbSpec}
use Rattle.msl_program.specs.declared.width.Width.TheVariants.{Any, Exactly, AtLeast, AtMost, Shared}
use Rattle.msl_program.specs.Known.{Known, is_declared}
use Rattle.msl_program.specs.Widths.{IsFunction}

-- a name that is not declared yet
pub record IsNewName (m : Known) (n : Text) : Type 0 where
  pub name : IsTrue (is_name n)
  pub is_new : is_declared m n ≡ false

pub record FilterFits (funs : List Fun) (f : FilterSpec) : Type 0 where
  pub some_state : 1 ≤ length f.state
  pub few_state : length f.state ≤ MOST_STATE
  pub state : AreIntegers f.state
  -- the state and at least one number of the record
  pub count : IsFunction funs (AtLeast (length f.state + 1)) (Exactly 1) f.count
  pub item : IsFunction funs (Exactly (params_of funs f.count + 1)) Any f.item
  pub next : IsFunction funs (Exactly (params_of funs f.count)) (Exactly (length f.state)) f.next
  pub flush : IsFunction funs (Exactly (length f.state)) (Exactly 1) f.flush
  pub last : IsFunction funs (Exactly (length f.state + 1)) Any f.last

pub record DivConFits (funs : List Fun) (d : divcon.DivCon) : Type 0 where
  pub some_parts : LEAST_PARTS ≤ d.parts
  pub few_parts : d.parts ≤ MOST_PARTS
  pub cutoff : d.cutoff ≤ MOST_CUTOFF
  pub simple : IsFunction funs Any (Exactly 1) d.simple
  -- the results of all parts are the parameters of `combine`
  pub solve : IsFunction funs (Exactly (params_of funs d.simple)) (Shared d.parts) d.solve
  pub divide : IsFunction funs (Exactly (params_of funs d.simple + 1)) (Exactly (params_of funs d.simple)) d.divide
  pub combine : IsFunction funs (Exactly (d.parts * results_of funs d.solve)) (Exactly (results_of funs d.solve)) d.combine

pub record SearchFits (funs : List Fun) (b : BnbSpec) : Type 0 where
  pub bound : IsFunction funs (AtMost (MOST_PARAMS - 1)) (Exactly 1) b.bound
  pub solved : IsFunction funs (Exactly (params_of funs b.bound)) (Exactly 1) b.solved
  pub value : IsFunction funs (Exactly (params_of funs b.bound)) (Exactly 1) b.value
  pub count : IsFunction funs (Exactly (params_of funs b.bound)) (Exactly 1) b.count
  -- the number of a child behind the problem
  pub branch : IsFunction funs (Exactly (params_of funs b.bound + 1)) (Exactly (params_of funs b.bound)) b.branch
