use Rattle.std.proofs.Common.{◌≡◌, length, ◌∙◌, ap, unwrap_or}
use Rattle.std.proofs.lemmas.Iterator.{YieldsList-from_slice}
use Rattle.std.proofs.lemmas.Iterator.Search.{position_from_yields_List}
use Rattle.std.specs.List.{position}
use Rattle.console.proofs.Cutting.{first_or_end}
use Rattle.console.proofs.words.run_length.Goals as goal

pub returns-clause-count : goal.returns-clause-count
returns-clause-count g c test k =
    let found : c.position.result ≡ position test c.args.text.now = position_from_yields_List test _ _ c.position.result c.position.ensures.ran (YieldsList-from_slice c.args.text.now (cc)) (λ x b q h. (g.met.P.Fn.1.step_stays _ _ _ _ (record { met = h.met }), k x b ((g.met.P.FnMut.1.post_iff _ _ _).1 (q, record { met = h.met })))) in
    c.unwrap_or.ensures ∙ ap (λ o. unwrap_or o (length c.args.text.now)) found ∙ first_or_end test c.args.text.now
