use Rattle.std.proofs.Common.{◌≡◌, ℕ, List, [], Option, Bor, refl, ap, ◌∙◌}
use Rattle.std.specs.List.{slice_get}
use Rattle.std.specs.Option.{option_map, unwrap_or}
use Rattle.std.proofs.lemmas.Option.{unwrap_or-slice_get}
use Rattle.std.proofs.lemmas.Iterator.Consumers.{YieldsList-from_first, nth_from_yields_List}
use Rattle.opf.specs.Fields.{runs}
use Rattle.opf.proofs.Runs.{behind}
use Rattle.opf.proofs.fields.field_at.Goals as goal

pub returns : goal.returns
returns c =
    let s = c.args.s.now in
    let n : option_map (λ x. x.now) c.nth.result ≡ slice_get (runs s) c.args.k =
    nth_from_yields_List c.nth.result c.nth.new.self c.args.k c.nth.ensures.ran (YieldsList-from_first (λ x. x.now) (λ t. runs t.0.now) (runs s) refl) in
    ap (λ (x : Bor (List ℕ)). x.now) c.unwrap_or.ensures
    ∙ behind c.nth.result _
    ∙ ap (λ (o : Option (List ℕ)). unwrap_or o []) n
    ∙ unwrap_or-slice_get (runs s) c.args.k []
