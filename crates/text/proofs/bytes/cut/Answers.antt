use Rattle.std.proofs.Common.{◌≡◌, ap, sym, ◌∙◌, rules, tests}
use Rattle.std.specs.List.{position}
use Rattle.std.specs.Option.{option_map}
use Rattle.std.proofs.lemmas.List.{take_rest}
use Rattle.std.proofs.lemmas.Iterator.{YieldsList-from_slice}
use Rattle.std.proofs.lemmas.Iterator.Search.{position_from_yields_List}
use Rattle.text.specs.Bytes.{is_byte, parts_seen}
use Rattle.text.proofs.Cuts.{cut_by, cut_is}
use Rattle.text.proofs.bytes.cut.Goals as goal

pub returns-in_err-n : goal.returns-in_err-n
returns-in_err-n c =
    let s = c.args.s.now in
    let e : c.position.result ≡ position (is_byte c.args.b) s = position_from_yields_List (is_byte c.args.b) _ _ c.position.result c.position.ensures.ran (YieldsList-from_slice s cc) (λ x b q k. search (rules, tests)) in
    ap parts_seen c.from_residual.ensures ∙ ap (option_map (cut_by s)) (sym c.in_err-n.was) ∙ cut_is c.args.b s c.position.result e

pub returns : goal.returns
returns c =
    let s = c.args.s.now in
    let e : c.position.result ≡ position (is_byte c.args.b) s = position_from_yields_List (is_byte c.args.b) _ _ c.position.result c.position.ensures.ran (YieldsList-from_slice s cc) (λ x b q k. search (rules, tests)) in
    rw take_rest (ap (option_map (cut_by s)) (sym c.in_ok-n.was) ∙ cut_is c.args.b s c.position.result e)
