-- `every` is what `all` answers.
use Rattle.std.proofs.Common.{◌≡◌, ℕ, Bool, ◌&&◌, List, refl}
use Rattle.std.specs.List.{list_all}
use Rattle.std.proofs.lemmas.List.Recursion.{same_from_clauses}
use Rattle.text.specs.Bytes.{every}

pub all_every : (p : ℕ → Bool) (s : List ℕ) → list_all p s ≡ every p s
all_every p = same_from_clauses (list_all p) (every p) (λ b r. p b && r) refl (λ _ _. refl) (λ _ _. refl)
