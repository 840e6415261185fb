-- The laws of the values that stand behind a key.
use Rattle.std.proofs.Common.{ℕ, ◌≡◌, refl, Bool, true, false, List, [], ◌∷◌, ◌++◌, ◌⊎◌, inl, inr}
use Rattle.rules.specs.Basics.{yes_no}
use Rattle.rules_types.specs.declared.Phase.{Phase}
use Rattle.rules_types.specs.declared.Phase.TheVariants.{Idle, Loading, Active, Unloading}
use Rattle.rules_types.specs.declared.Root.{Root}
use Rattle.rules_types.specs.declared.Root.TheVariants.{Unissued, Queued, Spent}
use Rattle.rules.specs.Holds.{port, Edition, First, Second}
use Rattle.rules.specs.Queries.{phase_number}
use Rattle.text_form.specs.Bytes.{bytes}
use Rattle.text_form.specs.Forms.{found, torn, expect, Lawful, read_any, ◌then◌, either}
use Rattle.text_form.specs.Lines.{number, comma, number_or_none}
use Rattle.text_form.proofs.Forms.{behind_lawful, literal_lawful, then_lawful, either_lawful, one_of_lawful, like_lawful}
use Rattle.text_form.proofs.Lines.{number_lawful, comma_lawful, number_or_none_lawful}
use Rattle.rules.specs.Text.Values.{key_realm, key_realm_value, digit, phases, phase, zero_or_one, unissued, queued, spent, from_root, to_root, root_and_queued, first_edition, second_edition, from_edition, to_edition, edition_and_default}

pub key_realm_lawful : Lawful key_realm
key_realm_lawful = like_lawful (comma then number) (then_lawful comma_lawful number_lawful) (λ p. (p.key, p.realm)) (λ (key, realm). port key realm) (λ a. refl) (λ b. refl)

pub key_realm_value_lawful : Lawful key_realm_value
key_realm_value_lawful =
    like_lawful
    (comma then comma then number_or_none)
    (then_lawful comma_lawful (then_lawful comma_lawful number_or_none_lawful))
    (λ v. (v.port.key, (v.port.realm, v.value)))
    (λ (key, (realm, value)). record { port = port key realm; value = value })
    (λ a. refl)
    (λ b. refl)

pub phase_back : (ph : Phase) (rest : List ℕ) → read_any (λ p. digit (phase_number p)) phases (digit (phase_number ph) ++ rest) ≡ found ph rest
unfolding expect
phase_back Idle rest = refl
phase_back Loading rest = refl
phase_back Active rest = refl
phase_back Unloading rest = refl

pub phase_lawful : Lawful phase
phase_lawful = one_of_lawful (λ p. digit (phase_number p)) phases phase_back

pub zero_or_one_back : (b : Bool) (rest : List ℕ) → read_any (λ m. digit (yes_no m)) (false ∷ true ∷ []) (digit (yes_no b) ++ rest) ≡ found b rest
unfolding expect
zero_or_one_back false rest = refl
zero_or_one_back true rest = refl

pub zero_or_one_lawful : Lawful zero_or_one
zero_or_one_lawful = one_of_lawful (λ m. digit (yes_no m)) (false ∷ true ∷ []) zero_or_one_back

pub unissued_lawful : Lawful unissued
unissued_lawful = literal_lawful (bytes "root=0\nqueued=none\n")

pub queued_lawful : Lawful queued
queued_lawful = behind_lawful (bytes "root=1\nqueued=") (comma then number) (then_lawful comma_lawful number_lawful)

pub spent_lawful : Lawful spent
spent_lawful = literal_lawful (bytes "root=2\nqueued=none\n")

pub spent_apart : (u : Unit {0}) (rest : List ℕ) → queued.read (spent.write u ++ rest) ≡ torn
unfolding expect
spent_apart u rest = refl

pub issued_apart : (b : (ℕ × ℕ) ⊎ Unit {0}) (rest : List ℕ) → unissued.read ((either queued spent).write b ++ rest) ≡ torn
unfolding expect
issued_apart (inl q) rest = refl
issued_apart (inr u) rest = refl

pub root_there : (a : Unit {0} ⊎ ((ℕ × ℕ) ⊎ Unit {0})) → from_root (to_root a) ≡ a
root_there (inl u) = refl
root_there (inr (inl q)) = refl
root_there (inr (inr u)) = refl

pub root_again : (b : Root) → to_root (from_root b) ≡ b
root_again Unissued = refl
root_again (Queued v a) = refl
root_again Spent = refl

pub root_and_queued_lawful : Lawful root_and_queued
root_and_queued_lawful =
    like_lawful (either unissued (either queued spent))
    (either_lawful unissued (either queued spent) unissued_lawful (either_lawful queued spent queued_lawful spent_lawful spent_apart) issued_apart)
    from_root to_root root_there root_again

pub first_edition_lawful : Lawful first_edition
first_edition_lawful = search literal_lawful

pub second_edition_lawful : Lawful second_edition
second_edition_lawful = behind_lawful (bytes "edition=2\ndefault=") number number_lawful

pub second_apart : (d : ℕ) (rest : List ℕ) → first_edition.read (second_edition.write d ++ rest) ≡ torn
unfolding expect
second_apart d rest = refl

pub edition_there : (a : Unit {0} ⊎ ℕ) → from_edition (to_edition a) ≡ a
edition_there (inl u) = refl
edition_there (inr d) = refl

pub edition_again : (b : Edition) → to_edition (from_edition b) ≡ b
edition_again First = refl
edition_again (Second d) = refl

pub edition_and_default_lawful : Lawful edition_and_default
edition_and_default_lawful =
    like_lawful (either first_edition second_edition)
    (either_lawful first_edition second_edition first_edition_lawful second_edition_lawful second_apart)
    from_edition to_edition edition_there edition_again
