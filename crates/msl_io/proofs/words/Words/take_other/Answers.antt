use Rattle.std.proofs.Common.{sym}
use Rattle.msl_io.proofs.Splitting.{scanned_blank, scanned_byte, scanned_stray, sign_unbroken, sign_step, stray_word}
use Rattle.msl_io.proofs.words.Words.take_other.Goals as goal

pub returns-then-separates : goal.returns-then-separates
returns-then-separates c before s =
    scanned_blank before c.close.new.self c.none.result c.args.b (sym c.if-separates.ensures) (c.in_ok-close.ensures before s) c.none.ensures

pub returns-then-may_begin_with : goal.returns-then-may_begin_with
returns-then-may_begin_with c before s =
    scanned_byte before c.args.self.now c.args.word c.of_sign.result c.args.b (sign_unbroken c.args.word c.args.b c.if-may_begin_with.ensures) (sign_step c.args.word c.of_sign.result c.args.b c.if-may_begin_with.ensures c.of_sign.ensures) s

pub returns : goal.returns
returns c before s =
    scanned_stray before c.args.self.now c.refuse.new.self c.args.word c.args.word c.args.b (sym c.if-separates.ensures) c.refuse.ensures (stray_word c.args.word c.args.b c.requires c.if-may_begin_with.ensures) s
