-- What the partitioners promise of their partitions' keys, these have.
use Rattle.std.proofs.Common.{◌≡◌, ℕ, ◌≤◌, true, false, List, ap, ◌∙◌, Result, Ok, Err, Vec}
use Rattle.std.specs.Prelude.{IfOk, OnOk}
use Rattle.std.specs.declared.alloc.Global.{Global}
use Rattle.std.proofs.lemmas.Bool.{false≢true}
use Rattle.plinq_keyed.specs.declared.keyed.Keyed.{Keyed}
use Rattle.plinq_keyed.specs.Keys.{keys, key_lists, keyed_from, element_lists, rises, ordered_in_each, ordered_across, normalized, Keeps}
use Rattle.plinq_partition.specs.Cuts.{cuts}
use Rattle.plinq_partition.specs.declared.part_fault.PartFault.{PartFault}
use Rattle.plinq_partition.proofs.Whole.{ordered-cuts, normalized-cuts, rises-indexes}

abbrev pub Parts : Type 0 → Type 0
Parts T = Vec (Vec (Keyed T) Global) Global

Keeps-indexes : {T : Type 0} (xs : List T) (n : ℕ) (parts : List (List (Keyed T))) → parts ≡ cuts (keyed_from 0 xs) n → 1 ≤ n
    → Keeps (record { in_each = true; across = true; normalized = true }) parts
Keeps-indexes xs n parts e some =
    let ordered = ordered-cuts (keyed_from 0 xs) n some (rises-indexes xs) in
    record {
      in_each = λ _. ap (λ ps. ordered_in_each (key_lists ps)) e ∙ ordered.0;
      across = λ _. ap (λ ps. ordered_across (key_lists ps)) e ∙ ordered.1;
      normal = λ _. ap (λ ps. normalized (key_lists ps)) e ∙ normalized-cuts xs n some;
    }

Keeps-pairs : {T : Type 0} (xs : List (Keyed T)) (n : ℕ) (parts : List (List (Keyed T))) → parts ≡ cuts xs n → 1 ≤ n → rises (keys xs) ≡ true
    → Keeps (record { in_each = true; across = true; normalized = false }) parts
Keeps-pairs xs n parts e some rising =
    let ordered = ordered-cuts xs n some rising in
    record {
      in_each = λ _. ap (λ ps. ordered_in_each (key_lists ps)) e ∙ ordered.0;
      across = λ _. ap (λ ps. ordered_across (key_lists ps)) e ∙ ordered.1;
      normal = λ never. absurd (false≢true never);
    }

pub indexes-promised : {T : Type 0} (xs : List T) (n : ℕ) (r : Result (Parts T) PartFault) → OnOk r (1 ≤ n)
    → IfOk r (λ parts. element_lists parts.items ≡ cuts (keyed_from 0 xs) n) →
    IfOk r (λ parts. Keeps (record { in_each = true; across = true; normalized = true }) (element_lists parts.items))
indexes-promised xs n (Ok parts) some e = Keeps-indexes xs n (element_lists parts.items) e some
indexes-promised xs n (Err f) some e = tt

pub pairs-promised : {T : Type 0} (xs : List (Keyed T)) (n : ℕ) (r : Result (Parts T) PartFault) → rises (keys xs) ≡ true → OnOk r (1 ≤ n)
    → IfOk r (λ parts. element_lists parts.items ≡ cuts xs n) →
    IfOk r (λ parts. Keeps (record { in_each = true; across = true; normalized = false }) (element_lists parts.items))
pairs-promised xs n (Ok parts) rising some e = Keeps-pairs xs n (element_lists parts.items) e some rising
pairs-promised xs n (Err f) rising some e = tt
