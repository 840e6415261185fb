-- A plugin's block in the parts that are written one behind the other.
use Rattle.std.specs.Prelude.{ℕ, ◌≡◌, refl, Bool, List, [], ◌∷◌, ◌++◌, length, Option, Some, None}
use Rattle.std.proofs.Common.{◌∙◌, subst, append_assoc}
use Rattle.rules_types.specs.declared.Port.{Port}
use Rattle.rules_types.specs.declared.Phase.{Phase}
use Rattle.rules_types.specs.declared.Root.{Root}
use Rattle.rules_types.specs.declared.Root.TheVariants.{Unissued, Queued, Spent}
use Rattle.rules.specs.Holds.{RealmList, Provision, Plugin}
use Rattle.rules.specs.Text.Values.{key_realm, key_realm_value, phase, zero_or_one, root_and_queued, edition_and_default}
use Rattle.text_form.specs.Bytes.{bytes}
use Rattle.text_form.specs.Forms.{write_all}
use Rattle.text_form.specs.Lines.{line, number, number_or_none}
use Rattle.text_laws.specs.Parts.{block_of, block_parts}
use Rattle.memory.specs.declared.Life.{Life}
use Rattle.memory.specs.Known.{life_of}
use Rattle.text_lines.specs.Laid.{Laid}
use Rattle.text_lines.specs.Lines.{ended, or_none, triple, root_lines, port_lines}

-- id and parent
unfoldable pub name_lines : Plugin → List ℕ
name_lines p = (line "id" number).write p.id ++ (line "parent" number_or_none).write p.parent

-- what operations on one plugin change, but for its values
abbrev pub phase_line : Phase → List ℕ
phase_line p = (line "phase" phase).write p

abbrev pub retired_line : Bool → List ℕ
retired_line b = (line "retired" zero_or_one).write b

unfoldable pub life_lines : Life → List ℕ
life_lines l =
    phase_line l.phase
    ++ (retired_line l.retired
    ++ ((line "generation" number).write l.generation.0
    ++ ((line "revision" number).write l.revision
    ++ ((line "payload" number).write l.payload
    ++ root_lines l.root))))

-- a count and a line for each port, by the bytes before the values
abbrev pub ports_lines : List ℕ → List ℕ → List Port → List ℕ
ports_lines plural name ps = (plural ++ ended (length ps) 10) ++ port_lines name ps

-- edition, default, realms
unfoldable pub realm_lines : RealmList → List ℕ
realm_lines l = edition_and_default.write l.edition ++ ports_lines (bytes "realms=") (bytes "realm=") l.rows

-- anchor, the realm list, dependencies
unfoldable pub list_lines : Plugin → List ℕ
list_lines p =
    (line "anchor" key_realm).write p.anchor
    ++ (realm_lines p.realms
    ++ ports_lines (bytes "deps=") (bytes "dep=") p.dependencies)

-- a line for each provision
abbrev pub provision_line : (key realm : ℕ) → Option ℕ → List ℕ
provision_line key realm value = bytes "prov=" ++ triple key realm value

unfoldable pub provision_lines : List Provision → List ℕ
provision_lines [] = []
provision_lines (v ∷ vs) = provision_line v.port.key v.port.realm v.value ++ provision_lines vs

abbrev pub provisions_lines : List Provision → List ℕ
provisions_lines vs = (line "provs" number).write (length vs) ++ provision_lines vs

-- The lines by their bytes are the lines of the text's form.
pub or_none_lem : (o : Option ℕ) → number_or_none.write o ≡ or_none o
or_none_lem (Some n) = refl
or_none_lem None = refl

pub root_lines_lem : (r : Root) → root_and_queued.write r ≡ root_lines r
root_lines_lem Unissued = refl
root_lines_lem (Queued v a) = refl
root_lines_lem Spent = refl

realm_rows_lem : (ps : List Port) → write_all (line "realm" key_realm) ps ≡ port_lines (bytes "realm=") ps
realm_rows_lem [] = refl
realm_rows_lem (p ∷ ps) = rw (realm_rows_lem ps)

deps_rows : (ps : List Port) → write_all (line "dep" key_realm) ps ≡ port_lines (bytes "dep=") ps
deps_rows [] = refl
deps_rows (p ∷ ps) = rw (deps_rows ps)

prov_rows : (vs : List Provision) → write_all (line "prov" key_realm_value) vs ≡ provision_lines vs
unfolding provision_lines
prov_rows [] = refl
prov_rows (v ∷ vs) = rw (or_none_lem v.value, prov_rows vs)

-- A block is its parts.
regroup
    : (a b c d e f g h i j k l : List ℕ)
    → a ++ (b ++ (c ++ (d ++ (e ++ (f ++ (g ++ (h ++ (i ++ (j ++ (k ++ l))))))))))
    ≡ (a ++ b) ++ ((c ++ (d ++ (e ++ (f ++ (g ++ h))))) ++ ((i ++ (j ++ k)) ++ l))
regroup a b c d e f g h i j k l = simp append_assoc

pub block_by_parts : (p : Plugin) → block_of p ≡ name_lines p ++ (life_lines (life_of p) ++ (list_lines p ++ provisions_lines p.provisions))
unfolding name_lines life_lines realm_lines list_lines
block_by_parts p =
    block_parts p
    ∙ rw (root_lines_lem p.root, realm_rows_lem p.realms.rows, deps_rows p.dependencies, prov_rows p.provisions)
    (regroup
    ((line "id" number).write p.id)
    ((line "parent" number_or_none).write p.parent)
    (phase_line p.phase)
    (retired_line p.retired)
    ((line "generation" number).write p.generation)
    ((line "revision" number).write p.revision)
    ((line "payload" number).write p.payload)
    (root_lines p.root)
    ((line "anchor" key_realm).write p.anchor)
    (realm_lines p.realms)
    (ports_lines (bytes "deps=") (bytes "dep=") p.dependencies)
    (provisions_lines p.provisions))

-- Bytes that are others.
pub laid_as : {l k : List ℕ} {at : ℕ} {t u : List ℕ} {r : ℕ} → l ≡ k → Laid l at t u r → Laid k at t u r
laid_as {at = at} {t} {u} {r} e x = subst (λ (b : List ℕ). Laid b at t u r) e x
