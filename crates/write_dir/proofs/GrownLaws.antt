-- What growth does to streams and bytes: other streams read the same and keep their bytes, the directory's are followed by zeros, and
-- its record keeps its first cluster. Assumes nothing.
use mathlib.Core.Path.{◌≡◌, refl, sym, ◌∙◌, ap, ap₂, subst}
use mathlib.Core.Bool.{Bool, true, false, false≢true}
use mathlib.Core.List.{List, [], ◌∷◌, ◌++◌}
use Prim.Native.Nat.{ℕ, zero, suc, ◌+◌, ◌*◌, ◌≤◌}
use native.Mathlib.Nat.{suc-mul}
use native.Mathlib.Omega.{arith}
use lib.ListN.{length, replicate, replicate-append-replicate}
use Rattle.tables.specs.Lists.{Mem, here, there, every}
use Rattle.tables.specs.Count.{count}
use Rattle.tables.proofs.ListLaws.{every_mem}
use Rattle.boot.specs.declared.layout.Layout.{Layout}
use Rattle.boot.specs.Limits.{in_map}
use Rattle.boot.specs.Layout.{in_heap, is_bitmap_cluster}
use Rattle.metadata.specs.Fat.{fat_entry}
use Rattle.metadata.specs.Marks.{marked}
use Rattle.metadata.specs.Usable.{is_usable}
use Rattle.metadata.proofs.Frame.{Fits, fits_kept}
use Rattle.metadata.proofs.View.{plain}
use Rattle.stream.specs.declared.allocation.Allocation.{Allocation}
use Rattle.stream.specs.Chain.{listed}
use Rattle.stream.specs.Stream.{number_of, stream_of, clusters_of, clusters_in}
use Rattle.stream.specs.Bytes.{cluster_bytes, bytes_of, bytes_in}
use Rattle.stream.proofs.StreamLaws.{read_facts}
use Rattle.stream.proofs.BytesLaws.{bytes_cong, bytes_append}
use Rattle.write_alloc.specs.Outcome.{Outcome}
use Rattle.write_extend.specs.Extend.{extend_in, in_place, longer, longer_run, longer_chain}
use Rattle.write_extend.proofs.ExtendLaws.{longer_in, longer_out}
use Rattle.write_extend.proofs.EnoughLaws.{grow_longer}
use Rattle.directory.specs.Room.{with_zeros}
use Rattle.write_dir.specs.Place.{GrownDirectory, grow_one, grow_by}
use Rattle.write_dir.proofs.AddedLaws.{Zeroed, zeroed_clusters, zeroed_count, grow_one_lem}

module _ (y : Layout) (d m : List ℕ) (w : GrownDirectory) (old new : List ℕ) (fits : Fits y d) (z : Zeroed y d m w old new) where
  abbrev d' : List ℕ
  d' = w.volume

  -- the new clusters are no stream's that reads on d
  pub zeroed_off : (b : Allocation) (js : List ℕ) → stream_of y d b ≡ listed js → (k : ℕ) → Mem k js → Mem k new → ⊥
  unfolding stream_of
  zeroed_off b js e k i j =
      false≢true (sym (z.unmarked k j) ∙ every_mem (marked y d) js (read_facts y.count (fat_entry y d) (marked y d) b js e).marks k i)

  -- and its bytes, like those of the directory itself, are kept
  pub zeroed_bytes : (b : Allocation) (js : List ℕ) → stream_of y d b ≡ listed js → every (plain y) js ≡ true → bytes_of y w.volume js ≡ bytes_of y d js
  zeroed_bytes b js e p = bytes_cong y d d' js (λ k i. z.bytes_kept k (every_mem (plain y) js p k i) (zeroed_off b js e k i))

  all_zeros : (js : List ℕ) → ((k : ℕ) → Mem k js → cluster_bytes y d' k ≡ replicate y.size 0) → bytes_of y d' js ≡ replicate (length js * y.size) 0
  unfolding bytes_of
  all_zeros [] h = let s : 0 ≡ 0 * y.size = omega arith in ap (λ (x : ℕ). replicate x 0) s
  all_zeros (k ∷ js) h =
      let s : y.size + length js * y.size ≡ suc (length js) * y.size = omega (arith, suc-mul (length js) y.size) in
      ap₂ (λ (u v : List ℕ). u ++ v) (h k (here refl)) (all_zeros js (λ j i. h j (there i)))
      ∙ replicate-append-replicate y.size (length js * y.size) 0 ∙ ap (λ (x : ℕ). replicate x 0) s

  -- the directory's bytes, and zeros after them
  pub zeroed_in : (a : Allocation) → stream_of y d a ≡ listed old → every (plain y) old ≡ true
      → bytes_in y w.volume w.directory ≡ with_zeros (bytes_in y d a) (length new * y.size)
  unfolding bytes_in with_zeros
  zeroed_in a e p =
      let c : clusters_in y d a ≡ old = unfold clusters_in in ap clusters_of e in
      ap (bytes_of y d') (zeroed_clusters y d m w old new z) ∙ bytes_append y d' old new
      ∙ ap₂ (λ (u v : List ℕ). u ++ v) (zeroed_bytes a old e p ∙ ap (bytes_of y d) (sym c)) (all_zeros new z.zeros)

-- ---- the record keeps its first cluster, and a chain its flag

pub record Led (a b : Allocation) : Type 0 where
  pub first : b.first ≡ a.first
  pub flag : a.no_fat_chain ≡ false → b.no_fat_chain ≡ false

-- a record that has clusters
module _ (y : Layout) (d m : List ℕ) (fits : Fits y d) (a : Allocation) (hint : ℕ) (reads : number_of (stream_of y d a) ≡ 0)
    (hint_in : in_heap y.count hint ≡ true) (some : 1 ≤ a.count) (h : 1 ≤ count (is_usable y d m) 2 y.count) where
  extend_led : Led a (extend_in y d m a 1 hint).answer.allocation
  extend_led =
      subst (λ (o : Outcome). Led a o.answer.allocation) (sym (grow_longer y d m fits a 1 hint reads hint_in some (omega arith) h)) (by (in_place y d m a 1) refl)
    where
      by : (b : Bool) → in_place y d m a 1 ≡ b → Led a (longer y d m a 1).answer.allocation
      by true e =
          subst (λ (o : Outcome). Led a o.answer.allocation) (sym (longer_in y d m a 1 e))
          (unfold longer_run in (record { first = refl; flag = λ f. absurd (false≢true (run_flag f e)) }))
        where
          run_flag : a.no_fat_chain ≡ false → in_place y d m a 1 ≡ true → false ≡ true
          run_flag f e = let q : in_place y d m a 1 ≡ false = unfold in_place in (rw f refl) in sym q ∙ e
      by false e =
          subst (λ (o : Outcome). Led a o.answer.allocation) (sym (longer_out y d m a 1 e))
          (unfold longer_chain in (record { first = refl; flag = λ f. refl }))

pub grow_led : (y : Layout) (m : List ℕ) → ((k : ℕ) → is_bitmap_cluster y k ≡ true → in_map m k ≡ true) → (n : ℕ) (w : GrownDirectory) → Fits y w.volume
    → (ks : List ℕ) → stream_of y w.volume w.directory ≡ listed ks → in_heap y.count w.hint ≡ true
    → n ≤ count (is_usable y w.volume m) 2 y.count → 1 ≤ w.directory.count
    → Led w.directory (grow_by y m n w).directory
unfolding grow_by
grow_led y m mapped zero w fits ks e i h s = record { first = refl; flag = λ f. f }
grow_led y m mapped (suc n) w fits ks e i h s =
    let k = (extend_in y w.volume m w.directory 1 w.hint).answer.allocation.last in
    let a = grow_one_lem y m w fits mapped ks e i (omega arith) in
    let v = grow_one y m w in
    let p = zeroed_count y w.volume m v ks (k ∷ []) a in
    let l : Led w.directory v.directory =
    unfold grow_one in
    extend_led y w.volume m fits w.directory w.hint (ap number_of e ∙ (unfold number_of in refl)) i s (omega arith) in
    let r = grow_led y m mapped n v (fits_kept y w.volume v.volume a.long fits) (ks ++ k ∷ []) a.reads a.hint_in (omega (arith, a.usable)) (omega (arith, p)) in
    record { first = r.first ∙ l.first; flag = λ f. r.flag (l.flag f) }
