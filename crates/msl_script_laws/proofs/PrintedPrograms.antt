-- Reading goes on through printed data programs.
use Rattle.std.proofs.Common.{◌≡◌, ◌<◌, ◌≤◌, ◌+◌, ℕ, zero, suc, List, [], ◌∷◌, ◌++◌, length, map, get_or, codes, refl, ap, sym, subst, ◌∙◌, append_assoc, append-nil, length-append, arith}
use Rattle.std.specs.Prelude.{slice_index_or}
use Rattle.std.proofs.lemmas.List.{length-map, map-append}
use Rattle.msl_lex.specs.Lexemes.{word, lexeme}
use Rattle.msl_lex.specs.Printing.{Bit}
use Rattle.msl_base.specs.Names.{Text}
use Rattle.msl_fun.specs.Checks.{names_of}
use Rattle.msl_fun_print.specs.FunText.{mark}
use Rattle.msl_muscle_laws.proofs.PrintedNames.{is_named}
use Rattle.msl_program.specs.declared.data.DataLine.{DataLine}
use Rattle.msl_program.specs.declared.data.DataProg.{DataProg}
use Rattle.msl_program.specs.declared.data.DataStep.{DataStep}
use Rattle.msl_program.specs.declared.data.DataStep.TheVariants as step
use Rattle.msl_program.specs.Known.{Known, with_data}
use Rattle.msl_program.specs.declared.shape.Shape.{Shape}
use Rattle.msl_program.specs.declared.shape.Shape.TheVariants as shape
use Rattle.msl_program.specs.ProgramPromise.{shape_at, shape_after, one_line, program_of, IsStep, EachLineFits, ProgramFits}
use Rattle.msl_program.specs.Promises.{IsNewName}
use Rattle.msl_program.specs.Programs.{Program, no_lines, with_line, line_names, blocks_of, turned}
use Rattle.msl_grammar.specs.ScriptGrammar.{State, token as quote, lines, line_rest, data_rule, give_rule, items}
use Rattle.msl_script_print.specs.ScriptText.{spaced, quoted, name_at, indented, line_end, step_bits, line_bits, data_bits}
use Rattle.msl_script_read.proofs.Items.{at_data}
use Rattle.msl_data_read.proofs.ProgramLeaves.{line_begins}
use Rattle.msl_script_laws.proofs.Printed as printed
use Rattle.msl_script_laws.proofs.Printed.{Goes, lined, one_token, grouped, sign_goes, name_spelt}
use Rattle.msl_script_laws.proofs.PrintedNames.{AreNames, no_names, one_name_more, not_quoted, stands}
use Rattle.msl_script_laws.proofs.PrintedParts.{Stands, fresh_goes}
use Rattle.msl_script_laws.proofs.PrintedSteps.{step_goes}
use Rattle.msl_script_laws.proofs.PrintedUses.{line_goes}

-- ---- blocks

-- no array has more blocks than a script can say
abbrev FewBlocks : List Shape → Type 0
FewBlocks shapes = (l : ℕ) → blocks_of (slice_index_or shapes l shape.Number) ≤ 1024

one_more : (shapes : List Shape) (s : Shape) → FewBlocks shapes → blocks_of s ≤ 1024 → FewBlocks (shapes ++ s ∷ [])
one_more [] s few h zero = h
one_more [] s few h (suc l) = omega arith
one_more (x ∷ shapes) s few h zero = few 0
one_more (x ∷ shapes) s few h (suc l) = one_more shapes s (λ l. few (suc l)) h l

turned_blocks : (s : Shape) → blocks_of s ≤ 1024 → blocks_of (turned s) ≤ 1024
turned_blocks (shape.Array b) h = h
turned_blocks (shape.Matrix r c p q) h = h
turned_blocks shape.Number h = h

module _ (m : Known) (p : Program) (few : FewBlocks p.shapes) where
  few_after : (st : DataStep) → IsStep m.funs p st → blocks_of (shape_after p st) ≤ 1024
  few_after (step.Array b) is = is.1
  few_after (step.ArrayAt b from len) is = is.0.1
  few_after (step.Matrix r c gr gc from) is = omega arith
  few_after (step.Map u l) is = few l
  few_after (step.MapIndex u l) is = few l
  few_after (step.Zip u l o) is = few l
  few_after (step.ZipIndex u l o) is = few l
  few_after (step.Fold op l) is = omega arith
  few_after (step.Scan op l) is = few l
  few_after (step.Foldl u first l) is = omega arith
  few_after (step.PermutePartition u l) is = few l
  few_after (step.Permute u l) is = few l
  few_after (step.BroadcastPartition j l) is = few l
  few_after (step.RotateRows u l) is = few l
  few_after (step.RotateCols u l) is = few l
  few_after (step.Transpose l) is = turned_blocks (shape_at p l) (few l)

-- ---- lines

pub lines_of : (p : Program) (ls : List DataLine) → (program_of p ls).lines ≡ p.lines ++ ls
lines_of p [] = sym (append-nil p.lines)
lines_of p (l ∷ ls) = lines_of (one_line p l) ls ∙ append_assoc p.lines (l ∷ []) ls

module _ (m : Known) (funs : List Text) (fun_stands : (f : ℕ) → f < length m.funs → Stands (names_of m.funs) f (slice_index_or funs f [])) where
  module _ (names : List Text) (give : ℕ) (k : Program × ℕ → State) (t : State) (bits : List Bit) where
    -- the lines so far, with those behind them
    record Behind (p : Program) (ls : List DataLine) : Type 0 where
      are : AreNames (line_names p)
      split : names ≡ line_names p ++ map (λ l. l.name) ls
      few : length p.lines + length ls ≤ 64
      blocks : FewBlocks p.shapes
      each : EachLineFits m.funs p ls
      gives : give < length (program_of p ls).lines

    line_stands : (p : Program) (ls : List DataLine) → Behind p ls → (l : ℕ) → l < length p.lines → Stands (line_names p) l (slice_index_or names l [])
    line_stands p ls b l within =
        subst (λ (ns : List Text). Stands (line_names p) l (get_or ns l [])) (sym b.split) (stands (line_names p) (map (λ l. l.name) ls) l b.are (omega (arith, length-map p.lines (λ l. l.name))))

    next_behind : (p : Program) (l : DataLine) (ls : List DataLine) → Behind p (l ∷ ls) → Behind (one_line p l) ls
    next_behind p l ls b =
        let grown = map-append (λ l. l.name) p.lines (l ∷ []) in
        record {
          are = subst AreNames (sym grown) (one_name_more (line_names p) l.name b.are b.each.0.name b.each.0.is_new);
          split = b.split ∙ (sym (append_assoc (line_names p) (l.name ∷ []) (map (λ l. l.name) ls)) ∙ ap (λ (ns : List Text). ns ++ map (λ l. l.name) ls) (sym grown));
          few = omega (arith, length-append p.lines (l ∷ []), b.few);
          blocks = one_more p.shapes (shape_after p l.step) b.blocks (few_after m p b.blocks l.step b.each.0.step);
          each = b.each.1;
          gives = b.gives;
        }

    lines_go : (p : Program) (ls : List DataLine) → Behind p ls → Goes (k (program_of p ls, give)) bits t → Goes (lines m p k) (indented (map (line_bits funs names) ls ++ spaced (quoted "give" ∷ name_at names give ∷ []) ∷ []) ++ bits) t
    lines_go p [] b h =
        printed.spaced (printed.spaced (one_token (give_rule p k) refl refl (λ at end ts. refl)
        (printed.spaced (line_goes m p funs names fun_stands (line_stands p [] b) (record { within = b.gives; suits = refl }) refl (sign_goes refl refl (lined h))))))
    lines_go p (l ∷ ls) b h =
        let fits = b.each.0 in
        let n = l.name in
        let step = step_bits funs names l.step in
        let more = indented (map (line_bits funs names) ls ++ spaced (quoted "give" ∷ name_at names give ∷ []) ∷ []) in
        let end = mark (codes ";") ∷ line_end ∷ [] in
        printed.spaced (printed.spaced (one_token (line_rest m p n (λ q. lines m q k)) (name_spelt n fits.name) refl
        (λ at end ts. line_begins m p k n (lexeme (word n) at end ∷ ts) (not_quoted n (codes "give") fits.name refl) (is_named n fits.name) (omega (arith, b.few)) fits.is_new)
        (printed.spaced (sign_goes refl refl (printed.spaced
        (grouped (step ++ end) more bits (grouped step end (more ++ bits)
        (step_goes m p funs names fun_stands (line_stands p (l ∷ ls) b) b.blocks (λ r. quote (codes ";") (lines m (with_line p n r.0 r.1) k)) t (line_end ∷ (more ++ bits)) l.step fits.step
        (sign_goes refl refl (lined (lines_go (one_line p l) ls (next_behind p l ls b) h)))))))))))

  pub data_goes : {t : State} {bits : List Bit} (d : DataProg) → IsNewName m d.name → ProgramFits m.funs d → length m.datas < 64 → Goes (items (with_data m d)) bits t → Goes (items m) (data_bits funs d ++ bits) t
  data_goes {t = t} {bits = bits} d new is few h =
      let k : DataProg → State = λ d. items (with_data m d) in
      let names = map (λ l. l.name) d.lines in
      let clauses = indented (map (line_bits funs names) d.lines ++ spaced (quoted "give" ∷ name_at names d.give ∷ []) ∷ []) in
      let same = lines_of no_lines d.lines in
      let last = subst (λ (ls : List DataLine). Goes (k (record { name = d.name; lines = ls; give = d.give })) bits t) (sym same) h in
      one_token (data_rule m k) refl refl (λ at end ts. at_data m (lexeme (word (codes "data")) at end ∷ ts) ts refl refl few)
      (printed.spaced (fresh_goes new.name new.is_new refl (printed.spaced (sign_goes refl refl (lined (grouped clauses (mark (codes "}") ∷ line_end ∷ []) bits
      (lines_go names d.give (λ r. quote (codes "}") (k (record { name = d.name; lines = (r.0).lines; give = r.1 }))) t (mark (codes "}") ∷ line_end ∷ bits) no_lines d.lines
      (record { are = no_names; split = refl; few = omega (arith, is.few_lines); blocks = λ l. few_none l; each = is.lines; gives = omega (arith, is.gives, ap length same) }) (sign_goes refl refl (lined last)))))))))
    where
      few_none : FewBlocks []
      few_none l = omega arith
