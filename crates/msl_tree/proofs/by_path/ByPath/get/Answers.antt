use Rattle.std.proofs.Common.{List, ℕ, ap, ◌∙◌}
use Rattle.std.specs.HashMap.{get_by}
use Rattle.std.specs.Option.{option_map}
use Rattle.std.specs.Str.{bytes_eq}
use Rattle.msl_tree.proofs.Found.{value_of}
use Rattle.msl_tree.proofs.by_path.ByPath.get.Goals as goal

pub returns-in-Some : goal.returns-in-Some
returns-in-Some c solved finds =
    ap (option_map value_of) c.in-Some.ensures.value
    ∙ ap (λ (p : List ℕ). option_map value_of (get_by (λ k. bytes_eq p k.now) c.args.self.now.entries)) c.as_slice.ensures.steps
    ∙ finds c.args.path.now
