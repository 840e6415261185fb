-- The text by its parts, one behind the other, as it is written.
use Rattle.std.specs.Prelude.{ℕ, ◌≡◌, refl, List, [], ◌∷◌, ◌++◌, length}
use Rattle.std.proofs.Common.{append_assoc}
use Rattle.rules.specs.Holds.{Plugin, Registry, plugins}
use Rattle.text_form.specs.Forms.{write_all}
use Rattle.text_form.specs.Lines.{line, list, number, number_or_none}
use Rattle.rules.specs.Text.Values.{key_realm, key_realm_value, phase, zero_or_one, root_and_queued, edition_and_default}
use Rattle.rules.specs.Text.{block, by_id, text_of}

-- A plugin's lines, and those of plugins one behind the other.
unfoldable pub block_of : Plugin → List ℕ
block_of p = block.write p

unfoldable pub blocks : List Plugin → List ℕ
blocks [] = []
blocks (p ∷ l) = block_of p ++ blocks l

pub block_parts
    : (p : Plugin)
    → block_of p
    ≡ (line "id" number).write p.id
    ++ ((line "parent" number_or_none).write p.parent
    ++ ((line "phase" phase).write p.phase
    ++ ((line "retired" zero_or_one).write p.retired
    ++ ((line "generation" number).write p.generation
    ++ ((line "revision" number).write p.revision
    ++ ((line "payload" number).write p.payload
    ++ (root_and_queued.write p.root
    ++ ((line "anchor" key_realm).write p.anchor
    ++ ((edition_and_default.write p.realms.edition ++ (list "realms" "realm" key_realm).write p.realms.rows)
    ++ ((list "deps" "dep" key_realm).write p.dependencies
    ++ (list "provs" "prov" key_realm_value).write p.provisions))))))))))
unfolding block_of
block_parts p = refl

blocks_all : (l : List Plugin) → write_all block l ≡ blocks l
unfolding blocks block_of
blocks_all [] = refl
blocks_all (p ∷ l) = rw (blocks_all l)

regroup : (a b c d : List ℕ) {x y : List ℕ} → x ≡ y → (a ++ (b ++ c)) ++ (d ++ x) ≡ a ++ (b ++ (c ++ (d ++ y)))
regroup a b c d e = simp (append_assoc, e)

pub text_parts
    : (r : Registry)
    → text_of r
    ≡ (line "domain" number).write r.domain
    ++ ((line "first" number).write r.first
    ++ ((line "next" number).write r.next
    ++ ((line "plugins" number).write (length (by_id (plugins r)))
    ++ blocks (by_id (plugins r)))))
unfolding text_of
text_parts r =
    regroup
    ((line "domain" number).write r.domain)
    ((line "first" number).write r.first)
    ((line "next" number).write r.next)
    ((line "plugins" number).write (length (by_id (plugins r))))
    (blocks_all (by_id (plugins r)))
