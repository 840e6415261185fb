-- The text tells two registries apart exactly where they differ in more than the plugins' places.
use Rattle.std.specs.Prelude.{ℕ, ◌≡◌, Some}
use Rattle.std.proofs.Common.{sym, ap, ◌∙◌}
use Rattle.rules.specs.Holds.{Registry, plugins, lookup}
use Rattle.rules.specs.Text.{text, Said, by_id, said, text_of, read_text}
use Rattle.rules.proofs.Text.{read_written}
use Rattle.text_laws.specs.Rising.{by_id_rises, by_id_found, by_id_only}

-- Equal up to places: the same numbers, and the same plugin for every id.
pub record Same (r s : Registry) : Type 0 where
  pub domain : r.domain ≡ s.domain
  pub first : r.first ≡ s.first
  pub next : r.next ≡ s.next
  pub plugin : (id : ℕ) → lookup r id ≡ lookup s id

pub same_text : (r s : Registry) → Same r s → text_of r ≡ text_of s
unfolding text_of lookup
same_text r s h =
    let e : by_id (plugins r) ≡ by_id (plugins s) =
    by_id_only (by_id (plugins r)) (plugins s) (by_id_rises (plugins r)) (λ x. by_id_found x (plugins r) ∙ h.plugin x) in
    ap (λ x. text.write x) (λ i. record { domain = h.domain i; first = h.first i; next = h.next i; plugins = e i })

pub text_same : (r s : Registry) → text.Fits (said r) → text.Fits (said s) → text_of r ≡ text_of s → Same r s
unfolding lookup
text_same r s hr hs e =
    let i : Some (said r) ≡ Some (said s) = sym (read_written r hr) ∙ ap read_text e ∙ read_written s hs in
    let j : said r ≡ said s = cc in
    let k : by_id (plugins r) ≡ by_id (plugins s) = ap (λ (x : Said). x.plugins) j in
    record {
      domain = ap (λ (x : Said). x.domain) j;
      first = ap (λ (x : Said). x.first) j;
      next = ap (λ (x : Said). x.next) j;
      plugin = λ x. sym (by_id_found x (plugins r)) ∙ rw k (by_id_found x (plugins s));
    }
