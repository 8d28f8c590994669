-- A new set in an ordered directory that grows where it must: the directory stays ordered, and its table of sets has the set at a
-- slot that had none. Assumes nothing.
use mathlib.Core.Path.{◌≡◌, sym, ◌∙◌, ap, subst}
use mathlib.Core.Bool.{cond}
use mathlib.Core.List.{List}
use mathlib.Core.Option.{none, some}
use Prim.Native.Nat.{ℕ, ◌+◌, ◌*◌, ◌≤◌}
use native.Mathlib.Nat.{mul_left_comm}
use lib.Dec.{eqb}
use lib.ListN.{take}
use Rattle.primitives.specs.Splice.{splice}
use Rattle.tables.specs.Table.{upd}
use Rattle.std.specs.Prelude.{Some}
use Rattle.directory.specs.Entries.{entry_count}
use Rattle.directory.specs.Internal.{sets}
use Rattle.directory.specs.Room.{free_run, slot_of, with_zeros, growth}
use Rattle.directory.proofs.FitLaws.{Fit}
use Rattle.directory.proofs.OrderedLaws.{Ordered}
use Rattle.directory.proofs.StoreLaws.{new_room, new_free, new_ordered, new-sets}
use Rattle.directory.proofs.GrowthLaws.{grown_ordered, grown_sets, place_at_lem, grown_at}

upd_at {ℓ} : {A : Type ℓ} (f f' : ℕ → A) (k : ℕ) (v : A) (j : ℕ) → f' j ≡ f j → upd f' k v j ≡ upd f k v j
unfolding upd
upd_at f f' k v j e = ap (cond (eqb j k) v) e

module _ (C size per : ℕ) (e : size ≡ 32 * per) (pos : 1 ≤ per) (bs : List ℕ) (n : ℕ) (s : List ℕ) (o : Ordered C size bs) (f : Fit C size n s) where
  -- the bytes that it grew to, and the slot
  abbrev wide : List ℕ
  wide = with_zeros bs (growth size bs n * size)

  abbrev at : ℕ
  at = slot_of (free_run wide n)

  whole_entries : growth size bs n * size ≡ 32 * (growth size bs n * per)
  whole_entries = ap (λ (x : ℕ). growth size bs n * x) e ∙ mul_left_comm (growth size bs n) 32 per

  wide_ordered : Ordered C size wide
  wide_ordered = subst (λ (x : ℕ). Ordered C size (with_zeros bs x)) (sym whole_entries) (grown_ordered C size bs (growth size bs n * per) o)

  wide_sets : (j : ℕ) → sets wide j ≡ sets bs j
  wide_sets j = ap (λ (x : ℕ). sets (with_zeros bs x) j) whole_entries ∙ grown_sets C size bs (growth size bs n * per) o j

  found : free_run wide n ≡ Some at
  unfolding slot_of
  found = let q = grown_at bs n o.whole _ (place_at_lem bs n o.whole) size per e pos in q ∙ ap Some (ap slot_of (sym q))

  pub insert_room : at + n ≤ entry_count wide
  insert_room = new_room C size wide at n s wide_ordered found f

  pub insert_free : sets bs at ≡ none
  insert_free = sym (wide_sets at) ∙ new_free C size wide at n s wide_ordered found f

  module _ (bs' : List ℕ) (q : bs' ≡ splice wide (32 * at) (take (32 * n) s)) where
    pub insert_ordered : Ordered C size bs'
    insert_ordered = new_ordered C size wide at n s wide_ordered found f bs' q

    pub insert_sets : (j : ℕ) → sets bs' j ≡ upd (sets bs) at (some s) j
    insert_sets j = new-sets C size wide at n s wide_ordered found f bs' q j ∙ upd_at (sets bs) (sets wide) at (some s) j (wide_sets j)
