use Rattle.std.proofs.Common.{sym, ◌∙◌}
use Rattle.msl_fun_read.specs.Calls.{callee_of}
use Rattle.msl_fun_read.specs.Grammar.{reading}
use Rattle.msl_fun_read.specs.Parsing.{curried}
use Rattle.msl_fun_read.proofs.Callees.{params_are}
use Rattle.msl_fun_read.proofs.Turns.{reads_end}
use Rattle.msl_fun_read.proofs.parse.declared.Declared.end_call.Goals as goal

pub returns-clause-reads : goal.returns-clause-reads
returns-clause-reads c context k =
    let funs = c.args.self.now.funs.now in
    let others = c.args.self.now.others.now in
    let long = sym c.len.ensures ∙ c.if-len-callee.false ∙ sym (params_are funs others c.args.callee.fun c.args.callee.params c.requires.callee.widths) in
    reads_end funs others (callee_of c.args.callee) context c.args.d.now.names c.args.args (curried k) c.args.d.now.cursor c.requires.ended (sym c.says.ensures ∙ c.if-not-says.false) long
    ∙ (λ i. reading funs others (sym c.advance.ensures i) (k (c.args.d.now.names, sym c.in_ok-call.ensures i)))
