use Rattle.std.proofs.Common.{◌≡◌, ℕ, ◌-◌, length, take, drop, sym, ap, ◌∙◌, arith, rules, tests}
use Rattle.std.specs.List.{position}
use Rattle.std.proofs.lemmas.List.{take_rest}
use Rattle.std.proofs.lemmas.Iterator.{YieldsList-from_slice}
use Rattle.std.proofs.lemmas.Iterator.Search.{position_from_yields_List}
use Rattle.text.specs.Bytes.{is_byte, other_than}
use Rattle.opf.proofs.Runs.{place_cases, place_or_all, no_run, first_run}
use Rattle.opf.proofs.fields.FieldsIterator.next.Goals as goal

pub returns-in_err-blanks-clause-steps : goal.returns-in_err-blanks-clause-steps
returns-in_err-blanks-clause-steps c =
    let s = c.args.self.now.0.now in
    let e : c.position.result ≡ position (other_than 32) s = position_from_yields_List (other_than 32) _ _ c.position.result c.position.ensures.ran (YieldsList-from_slice s cc) (λ x b q k. search (rules, tests)) in
    let none = no_run s (place_cases (other_than 32) s _ (sym c.in_err-blanks.was ∙ e)) in
    rw c.from_residual.ensures (none, none)

pub returns-clause-steps : goal.returns-clause-steps
returns-clause-steps c =
    let s = c.args.self.now.0.now in
    let m = c.in_ok-blanks.blanks in
    let t = take (length s - m) (drop m s) in
    let e : c.position.result ≡ position (other_than 32) s = position_from_yields_List (other_than 32) _ _ c.position.result c.position.ensures.ran (YieldsList-from_slice s cc) (λ x b q k. search (rules, tests)) in
    let at = place_cases (other_than 32) s _ (sym c.in_ok-blanks.was ∙ e) in
    let d : c.position-2.result ≡ position (is_byte 32) t = position_from_yields_List (is_byte 32) _ _ c.position-2.result c.position-2.ensures.ran (YieldsList-from_slice t cc) (λ x b q k. search (rules, tests)) in
    rw (c.split_at.ensures.front, c.split_at.ensures.back)
    (first_run s t c.unwrap_or-n.result at.0 (take_rest s m ∙ ap (λ (n : ℕ). drop n s) at.1) (c.unwrap_or-n.ensures ∙ place_or_all (is_byte 32) t c.position-2.result d))

pub returns-clause-goes : goal.returns-clause-goes
returns-clause-goes c =
    let e = ap length (returns-clause-steps c) in
    record { on = λ _. (search rules, search rules, omega (arith, e)); keeps = search rules; rests = search rules }
