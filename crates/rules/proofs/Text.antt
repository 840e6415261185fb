-- The text's form is lawful: what is written says the registry, and what says something is what is written.
use Rattle.std.specs.Prelude.{Some}
pub mod Values
use Rattle.std.proofs.Common.{ℕ, ◌≡◌, refl, sym, ◌∙◌, List}
use Rattle.rules.specs.Holds.{RealmList, Plugin, Registry}
use Rattle.rules.specs.Text.{header, with_count, realms, Lines, lines, lines_of, plugin_of, block, Said, text, said, text_of, read_text}
use Rattle.rules.specs.Text.Values.{key_realm, edition_and_default}
use Rattle.text_form.specs.Forms.{Form, Lawful, ◌then◌}
use Rattle.text_form.specs.Lines.{list}
use Rattle.text_form.proofs.Forms.{then_lawful, like_lawful, counted_lawful}
use Rattle.text_form.proofs.Forms as forms
use Rattle.text_form.proofs.Lines.{line_lawful, list_lawful, number_lawful, number_or_none_lawful}
use Rattle.rules.proofs.Text.Values.{key_realm_lawful, key_realm_value_lawful, phase_lawful, zero_or_one_lawful, root_and_queued_lawful, edition_and_default_lawful}

pub header_lawful : Lawful header
header_lawful =
    then_lawful (line_lawful "domain" number_lawful) (then_lawful (line_lawful "first" number_lawful) (line_lawful "next" number_lawful))

pub with_count_lawful : {plugin : Form Plugin} → Lawful plugin → Lawful (with_count plugin)
with_count_lawful l = counted_lawful (line_lawful "plugins" number_lawful) l

pub realms_lawful : Lawful realms
realms_lawful =
    like_lawful
    (edition_and_default then list "realms" "realm" key_realm)
    (then_lawful edition_and_default_lawful (list_lawful "realms" "realm" key_realm_lawful))
    (λ l. (l.edition, l.rows))
    (λ (edition, rows). record { edition = edition; rows = rows })
    (λ a. refl)
    (λ b. refl)

pub lines_lawful : Lawful lines
lines_lawful =
    search (
      then_lawful,
      line_lawful,
      list_lawful,
      number_lawful,
      number_or_none_lawful,
      phase_lawful,
      zero_or_one_lawful,
      root_and_queued_lawful,
      key_realm_lawful,
      key_realm_value_lawful,
      realms_lawful,
    )
    depth 16

pub block_lawful : Lawful block
block_lawful = like_lawful lines lines_lawful lines_of plugin_of (λ a. refl) (λ b. refl)

pub text_lawful : Lawful text
text_lawful =
    like_lawful
    (header then with_count block)
    (then_lawful header_lawful (with_count_lawful block_lawful))
    (λ s. ((s.domain, (s.first, s.next)), s.plugins))
    (λ ((domain, (first, next)), plugins). record { domain = domain; first = first; next = next; plugins = plugins })
    (λ a. refl)
    (λ b. refl)

-- A registry's text says that registry. Fits: every number is at most 2^64 − 1.
pub read_written : (r : Registry) → text.Fits (said r) → read_text (text_of r) ≡ Some (said r)
unfolding text_of read_text
read_written r h = forms.read_written text text_lawful (said r) h

-- A text that says something is the one text that says it.
pub written_read : (t : List ℕ) (s : Said) → read_text t ≡ Some s → text.Fits s × (text.write s ≡ t)
unfolding read_text
written_read t s e = forms.written_read text text_lawful t s e

pub one_text : (t u : List ℕ) (s : Said) → read_text t ≡ Some s → read_text u ≡ Some s → t ≡ u
one_text t u s d e = sym (written_read t s d).1 ∙ (written_read u s e).1
