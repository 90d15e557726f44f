use Rattle.std.proofs.Common.{[], refl}
use Rattle.std.proofs.lemmas.Result.{err_from_is_err_and}
use Rattle.msl_fun_read.proofs.Bindings.{binds, no_binding, no_name}
use Rattle.msl_fun_read.proofs.parse.draft.Draft.name_before.Goals as goal

pub returns-in_err-name : goal.returns-in_err-name
returns-in_err-name c =
    let out = err_from_is_err_and c.from_residual.result c.from_residual.ensures.1 in
    rw (out.1, out.2) (no_name c.args.self.now.scope c.args.text.now [] c.args.self.now c.args.self.now c.args.self.now c.args.self.now refl refl c.in_err-name.field-0.0 c.in_err-name.ensures.name)

pub returns-in_err-expect : goal.returns-in_err-expect
returns-in_err-expect c =
    let out = err_from_is_err_and c.from_residual-in_err-expect.result c.from_residual-in_err-expect.ensures.1 in
    rw (out.1, out.2) (no_binding c.args.self.now.scope c.args.text.now c.in_ok-name.name.now c.args.self.now c.args.self.now c.new_name.new.self c.args.self.now refl refl c.in_err-expect.field-0.0 c.in_ok-name.ensures.name c.in_err-expect.ensures)

pub returns : goal.returns
returns c = binds c.args.self.now.scope c.args.text.now c.in_ok-name.name.now c.args.self.now c.args.self.now c.new_name.new.self _ refl refl refl c.in_ok-name.ensures.name c.in_ok-expect.ensures c.in_ok-name.ensures.name.scope refl
