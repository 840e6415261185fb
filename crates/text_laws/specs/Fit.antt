-- A registry fits its text where its own numbers and each of its plugins do.
use Rattle.std.specs.Prelude.{◌≤◌, refl, List, [], ◌∷◌, length}
use Rattle.std.proofs.Common.{arith, inl, inr}
use Rattle.rules.specs.Basics.{last}
use Rattle.rules.specs.Holds.{Plugin, Registry, plugins}
use Rattle.rules_laws.specs.Laws.Members.{In}
use Rattle.text_form.specs.Forms.{Form, FitAll}
use Rattle.rules.specs.Text.{block, text, by_id, said}
use Rattle.text_laws.specs.Rising.{by_id_in, by_id_sum}
use Rattle.text_laws.specs.Sizes.{sum_same, held_most}

fit_all : {A : Type 0} (f : Form A) (l : List A) → ((a : A) → In a l → f.Fits a) → FitAll f l
fit_all f [] h = tt
fit_all f (a ∷ l) h = (h a (inl refl), fit_all f l (λ b m. h b (inr m)))

pub record Narrow (r : Registry) : Type 0 where
  pub domain : r.domain ≤ last
  pub first : r.first ≤ last
  pub next : r.next ≤ last
  pub places : length r.places ≤ last
  pub plugins : (p : Plugin) → In p (plugins r) → block.Fits p

pub text_fits : (r : Registry) → Narrow r → text.Fits (said r)
text_fits r h =
    let ps = plugins r in
    let few : length (by_id ps) ≤ last =
    omega (arith, by_id_sum (λ (p : Plugin). 1) ps, sum_same 1 (by_id ps), sum_same 1 ps, held_most r.places, h.places) in
    ((h.domain, (h.first, h.next)), (few, fit_all block (by_id ps) (λ p m. h.plugins p (by_id_in p ps m))))
