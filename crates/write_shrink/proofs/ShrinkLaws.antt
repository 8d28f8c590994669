-- What freeing clusters and cutting a stream do to a volume, cluster by cluster. Assumes nothing.
use mathlib.Core.Path.{◌≡◌, refl, sym, ◌∙◌, ap, subst}
use mathlib.Core.Logic.{◌≢◌}
use mathlib.Core.Bool.{Bool, true, false, ◌||◌, not, cond}
use mathlib.Core.List.{List, [], ◌∷◌, ◌++◌}
use Prim.Native.Nat.{ℕ, zero, suc, ◌+◌, ◌≤◌, ◌<◌}
use native.Mathlib.Omega.{arith}
use lib.Dec.{eqb}
use lib.ListN.{length, take, drop, take-append-drop}
use lib.Seq.{take-append_seam}
use borrow.Author.Tests.{eqb-true, eqb-false, lt-leb, not-true}
use Rattle.tables.specs.Table.{upd}
use Rattle.tables.specs.Internal.{upd_all}
use Rattle.tables.specs.Lists.{Mem, here, there, Distinct, every, last_or, consec, rising_from, rising}
use Rattle.tables.proofs.Cases.{clash, and_left, and_right}
use Rattle.tables.proofs.TableLaws.{all_same, all_other, all-upd}
use Rattle.tables.proofs.ListLaws.{mem_take, mem_left, mem_right, every_mem, mem_every, distinct_take, last_in}
use Rattle.tables.proofs.CountLaws.{count_cong, count-all}
use Rattle.boot.specs.declared.layout.Layout.{Layout}
use Rattle.boot.specs.Limits.{in_map}
use Rattle.boot.specs.Layout.{in_heap}
use Rattle.boot.specs.Causes.{first_cause, heap_cause}
use Rattle.boot.proofs.CauseLaws.{cause_none}
use Rattle.boot.proofs.Apart.{in_heap_lem, heap_in}
use Rattle.metadata.specs.Fat.{END, fat_entry, set_fat}
use Rattle.metadata.specs.Marks.{marked, free_count}
use Rattle.metadata.specs.Cluster.{cluster_byte}
use Rattle.metadata.proofs.Frame.{Fits, fits_kept, length_fat, fat_fat_same, fat_fat_other, mark_fat, cluster_fat}
use Rattle.metadata.proofs.View.{Tables, plain, view, with_mark, view_fat_at, view_mark_at, view_byte_at, view_set_fat, view_set_mark}
use Rattle.metadata.proofs.Counting.{marked_count, free_is_unmarked}
use Rattle.stream.specs.declared.allocation.Allocation.{Allocation}
use Rattle.stream.specs.Chain.{listed, read_chain}
use Rattle.stream.specs.Stream.{number_of, read_stream, stream_of, clusters_of, system_cause}
use Rattle.stream.proofs.StreamLaws.{last_consec, Read, read_facts}
use Rattle.stream.proofs.ChainLaws.{stream_empty}
use Rattle.stream.proofs.ListingLaws.{stream_read}
use Rattle.stream.proofs.Distinct.{chain-cut, run_listed, record_listed, read-run, read-chain, read_distinct, stream_frame}
use Rattle.write_alloc.specs.Outcome.{Outcome, unchanged}
use Rattle.write_shrink.specs.Shrink.{free_all, kept_record, end_kept, shrink_cause, cut, shrink_in}
use Rattle.write_alloc.proofs.TakeLaws.{mark_is, fat_is, byte_is_lem}
use Rattle.write_shrink.proofs.Cutting.{distinct_right, distinct_apart, free_one, length-one, fits_one, end_case, shrink_by}

-- ---- freeing, in tables

abbrev pub with_freed : Tables → List ℕ → Tables
with_freed a ks = record { fat = upd_all a.fat ks 0; mark = upd_all a.mark ks false; byte = a.byte }

-- an entry depends on that entry alone
all_cong {ℓ} : {A : Type ℓ} (f g : ℕ → A) (ks : List ℕ) (v : A) (j : ℕ) → f j ≡ g j → upd_all f ks v j ≡ upd_all g ks v j
unfolding upd_all upd
all_cong f g [] v j e = e
all_cong f g (k ∷ ks) v j e = ap (λ x. cond (eqb j k) v x) (all_cong f g ks v j e)

module _ (y : Layout) where
  pub length-free_all : (d : List ℕ) (ks : List ℕ) → length (free_all y d ks) ≡ length d
  unfolding free_all
  length-free_all d [] = refl
  length-free_all d (k ∷ ks) = length-free_all (free_one y d k) ks ∙ length-one y d k

  view_free_one : (d : List ℕ) → Fits y d → (k : ℕ) → in_heap y.count k ≡ true
      → view y (free_one y d k) ≡ record { fat = upd (view y d).fat k 0; mark = upd (view y d).mark k false; byte = (view y d).byte }
  view_free_one d w k h =
      view_set_mark y (set_fat y d k 0) (fits_kept y d (set_fat y d k 0) (length_fat y d k 0) w) k false h
      ∙ ap (λ a. with_mark a k false) (view_set_fat y d w k 0 h (omega arith))

  free_on : (a : Tables) (k : ℕ) (ks : List ℕ)
      → with_freed (record { fat = upd a.fat k 0; mark = upd a.mark k false; byte = a.byte }) ks ≡ with_freed a (k ∷ ks)
  unfolding upd_all
  free_on a k ks = λ i. record { fat = all-upd a.fat k 0 ks i; mark = all-upd a.mark k false ks i; byte = a.byte }

  pub view_free_all : (d : List ℕ) → Fits y d → (ks : List ℕ) → ((k : ℕ) → Mem k ks → in_heap y.count k ≡ true)
      → view y (free_all y d ks) ≡ with_freed (view y d) ks
  unfolding free_all
  view_free_all d w [] h = unfold upd_all in refl
  view_free_all d w (k ∷ ks) h =
      view_free_all (free_one y d k) (fits_one y d k w) ks (λ j m. h j (there m))
      ∙ ap (λ a. with_freed a ks) (view_free_one d w k (h k (here refl)))
      ∙ free_on (view y d) k ks

-- ---- and cluster by cluster

module _ (y : Layout) (d : List ℕ) (w : Fits y d) (ks : List ℕ) (inside : (k : ℕ) → Mem k ks → in_heap y.count k ≡ true) where
  abbrev after_free : List ℕ
  after_free = free_all y d ks

  free_view : view y after_free ≡ with_freed (view y d) ks
  free_view = view_free_all y d w ks inside

  pub free_marks : (j : ℕ) → in_heap y.count j ≡ true → marked y (free_all y d ks) j ≡ upd_all (marked y d) ks false j
  free_marks j h =
      mark_is y after_free (with_freed (view y d) ks) free_view j h
      ∙ all_cong (view y d).mark (marked y d) ks false j (view_mark_at y d j h)

  pub free_mark : (j : ℕ) → Mem j ks → marked y (free_all y d ks) j ≡ false
  free_mark j m = free_marks j (inside j m) ∙ all_same (marked y d) ks false j m

  pub free_mark_other : (j : ℕ) → in_heap y.count j ≡ true → (Mem j ks → ⊥) → marked y (free_all y d ks) j ≡ marked y d j
  free_mark_other j h o = free_marks j h ∙ all_other (marked y d) ks false j o

  free_fats : (j : ℕ) → in_heap y.count j ≡ true → fat_entry y (free_all y d ks) j ≡ upd_all (fat_entry y d) ks 0 j
  free_fats j h =
      fat_is y after_free (with_freed (view y d) ks) free_view j h
      ∙ all_cong (view y d).fat (fat_entry y d) ks 0 j (view_fat_at y d j h)

  pub free_fat : (j : ℕ) → Mem j ks → fat_entry y (free_all y d ks) j ≡ 0
  free_fat j m = free_fats j (inside j m) ∙ all_same (fat_entry y d) ks 0 j m

  pub free_fat_other : (j : ℕ) → in_heap y.count j ≡ true → (Mem j ks → ⊥) → fat_entry y (free_all y d ks) j ≡ fat_entry y d j
  free_fat_other j h o = free_fats j h ∙ all_other (fat_entry y d) ks 0 j o

  pub free_byte : (j r : ℕ) → plain y j ≡ true → r < y.size → cluster_byte y (free_all y d ks) j r ≡ cluster_byte y d j r
  free_byte j r h b = byte_is_lem y after_free (with_freed (view y d) ks) free_view j r h b ∙ view_byte_at y d j r h b

  pub free_counts : Distinct ks → ((k : ℕ) → Mem k ks → marked y d k ≡ true) → marked_count y (free_all y d ks) + length ks ≡ marked_count y d
  unfolding marked_count
  free_counts q f =
      ap (λ (x : ℕ). x + length ks)
      (count_cong (upd_all (marked y d) ks false) (marked y (free_all y d ks)) 2 y.count (λ j a b. free_marks j (heap_in y.count j a (omega arith))))
      ∙ omega (
        arith,
        count-all (marked y d) 2 y.count ks false true q
            (λ k m. let r = in_heap_lem y.count k (inside k m) in (r.0, omega arith, f k m)),
      )

-- ---- the kept clusters are read again, in tables

-- numbers that rise by one are consecutive
rising-consec : (c : ℕ) (cs : List ℕ) → rising_from c cs ≡ true → c ∷ cs ≡ consec c (suc (length cs))
unfolding rising_from consec
rising-consec c [] e = refl
rising-consec c (b ∷ bs) e =
    let q = eqb-true b (c + 1) (and_left (eqb b (c + 1)) (rising_from b bs) e) in
    ap (λ (l : List ℕ). c ∷ l)
    (rising-consec b bs (and_right (eqb b (c + 1)) (rising_from b bs) e) ∙ ap (λ (x : ℕ). consec x (suc (length bs))) q)

-- and so is the front of consecutive ones
front_consec : (xs zs : List ℕ) (k n : ℕ) → xs ++ zs ≡ consec k n → xs ≡ consec k (length xs)
unfolding consec
front_consec [] zs k n e = refl
front_consec (x ∷ xs) zs k zero e = clash (cc)
front_consec (x ∷ xs) zs k (suc n) e =
    let q : x ≡ k = cc in
    let t : xs ++ zs ≡ consec (k + 1) n = cc in
    let r = front_consec xs zs (k + 1) n t in
    cc

module _ (C : ℕ) (small : C + 2 ≤ END) (f f' : ℕ → ℕ) (mark mark' : ℕ → Bool) (a : Allocation) (c : ℕ) (cs zs : List ℕ)
    (r : Read C f mark a (c ∷ (cs ++ zs))) (marks : (j : ℕ) → Mem j (c ∷ cs) → mark' j ≡ mark j)
    (fats : a.no_fat_chain ≡ false → (j : ℕ) → Mem j (c ∷ cs) → j ≢ last_or c cs → f' j ≡ f j)
    (ends : a.no_fat_chain ≡ false → f' (last_or c cs) ≡ END) where
  front_mem : (j : ℕ) → Mem j (c ∷ cs) → Mem j (c ∷ (cs ++ zs))
  front_mem j m = mem_left zs m

  front_heap : every (in_heap C) (c ∷ cs) ≡ true
  front_heap = mem_every (in_heap C) (c ∷ cs) (λ j m. every_mem (in_heap C) (c ∷ (cs ++ zs)) r.heap j (front_mem j m))

  front_marked : every mark' (c ∷ cs) ≡ true
  front_marked = mem_every mark' (c ∷ cs) (λ j m. marks j m ∙ every_mem mark (c ∷ (cs ++ zs)) r.marks j (front_mem j m))

  as_run : (t : Bool) → t ≡ true → c ∷ cs ≡ consec c (suc (length cs))
      → read_stream C f' mark' (record { first = c; last = last_or c cs; count = length (c ∷ cs); no_fat_chain = t }) ≡ listed (c ∷ cs)
  unfolding last_or
  as_run t p q =
      run_listed C f' mark' (record { first = c; last = last_or c cs; count = length (c ∷ cs); no_fat_chain = t }) p
      last_row (ap (every (in_heap C)) (sym q) ∙ front_heap) (ap (every mark') (sym q) ∙ front_marked)
      ∙ ap listed (sym q)
    where
      last_row : last_or c cs + 1 ≡ c + suc (length cs)
      last_row = ap (λ (l : List ℕ). last_or 0 l + 1) q ∙ last_consec 0 c (suc (length cs)) (λ z. omega arith)

  by_flag : (t s : Bool) → a.no_fat_chain ≡ t → rising (c ∷ cs) ≡ s
      → read_stream C f' mark' (record { first = c; last = last_or c cs; count = length (c ∷ cs); no_fat_chain = t || s }) ≡ listed (c ∷ cs)
  by_flag true s p q =
      let e = front_consec (c ∷ cs) zs a.first a.count (read-run C f mark a (c ∷ (cs ++ zs)) r p) in
      as_run true refl (e ∙ ap (λ (x : ℕ). consec x (suc (length cs))) (sym (head e)))
    where
      head : c ∷ cs ≡ consec a.first (suc (length cs)) → c ≡ a.first
      head e = unfold consec in cc
  by_flag false true p q = as_run true refl (rising-consec c cs (unfold rising in q))
  by_flag false false p q =
      let g = read-chain C f mark a c (cs ++ zs) r p in
      let d = distinct_take (length (c ∷ cs)) (c ∷ (cs ++ zs)) (read_distinct C f mark a small (c ∷ (cs ++ zs)) r) in
      record_listed C f' mark' (record { first = c; last = last_or c cs; count = length (c ∷ cs); no_fat_chain = false }) c cs refl
      (ap (read_chain C f') (sym g.0) ∙ chain-cut C small f f' a.first c cs zs g (subst Distinct front d) (fats p) (ends p))
      refl refl front_marked
    where
      front : take (length (c ∷ cs)) (c ∷ (cs ++ zs)) ≡ c ∷ cs
      front = take-append_seam (c ∷ cs) zs

  pub cut-reads : read_stream C f' mark' (kept_record a (c ∷ cs)) ≡ listed (c ∷ cs)
  unfolding kept_record
  cut-reads = by_flag a.no_fat_chain (rising (c ∷ cs)) refl refl

-- ---- what a cut leaves

-- the clusters that a cut keeps, and those that it frees
abbrev pub kept : Layout → List ℕ → Allocation → ℕ → List ℕ
kept y d a keep = take keep (clusters_of (stream_of y d a))

abbrev pub freed : Layout → List ℕ → Allocation → ℕ → List ℕ
freed y d a keep = drop keep (clusters_of (stream_of y d a))

-- d' is the volume after the cut
pub record Shrunk (y : Layout) (d : List ℕ) (a : Allocation) (keep : ℕ) (d' : List ℕ) : Type 0 where
  pub long : length d' ≡ length d
  -- freed clusters
  pub unmarked : (j : ℕ) → Mem j (freed y d a keep) → marked y d' j ≡ false
  pub zeroed : (j : ℕ) → Mem j (freed y d a keep) → fat_entry y d' j ≡ 0
  pub counts : marked_count y d' + length (freed y d a keep) ≡ marked_count y d
  pub frees : free_count y d' ≡ free_count y d + length (freed y d a keep)
  -- the last kept one of a chain
  pub ended : (c : ℕ) (cs : List ℕ) → kept y d a keep ≡ c ∷ cs → a.no_fat_chain ≡ false → fat_entry y d' (last_or c cs) ≡ END
  -- every other mark and entry, and all bytes
  pub marks : (j : ℕ) → in_heap y.count j ≡ true → (Mem j (freed y d a keep) → ⊥) → marked y d' j ≡ marked y d j
  pub fats : (j : ℕ) → in_heap y.count j ≡ true → (Mem j (freed y d a keep) → ⊥)
      → (a.no_fat_chain ≡ false → j ≢ last_or 0 (kept y d a keep)) → fat_entry y d' j ≡ fat_entry y d j
  pub bytes : (j r : ℕ) → plain y j ≡ true → r < y.size → cluster_byte y d' j r ≡ cluster_byte y d j r
  -- the new record is read as the kept clusters
  pub reads : stream_of y d' (kept_record a (kept y d a keep)) ≡ listed (kept y d a keep)
  -- and a record that shares no cluster as before
  pub others : (b : Allocation) (js : List ℕ) → stream_of y d b ≡ listed js → ((j : ℕ) → Mem j js → Mem j (clusters_of (stream_of y d a)) → ⊥)
      → stream_of y d' b ≡ listed js

-- the last of a list that is not 0 stands in it
last_of : (j : ℕ) (l : List ℕ) → 1 ≤ j → j ≡ last_or 0 l → Mem j l
unfolding last_or
last_of j [] h e = absurd (omega arith)
last_of j (c ∷ cs) h e = subst (λ (x : ℕ). Mem x (c ∷ cs)) (sym e) (last_in c cs)

module _ (y : Layout) (d : List ℕ) (w : Fits y d) (a : Allocation) (keep : ℕ) (e : number_of (stream_of y d a) ≡ 0) where
  abbrev all : List ℕ
  all = clusters_of (stream_of y d a)

  read : Read y.count (fat_entry y d) (marked y d) a all
  read = stream_read y d a e

  small : y.count + 2 ≤ END
  small = let h = w.laid.count_high in omega arith

  whole : kept y d a keep ++ freed y d a keep ≡ all
  whole = take-append-drop keep all

  apart : Distinct (kept y d a keep ++ freed y d a keep)
  apart = subst Distinct (sym whole) (read_distinct y.count (fat_entry y d) (marked y d) a small all read)

  kept_all : (j : ℕ) → Mem j (kept y d a keep) → Mem j all
  kept_all j m = mem_take keep all m

  freed_all : (j : ℕ) → Mem j (freed y d a keep) → Mem j all
  freed_all j m = subst (Mem j) whole (mem_right (kept y d a keep) m)

  heap : (j : ℕ) → Mem j all → in_heap y.count j ≡ true
  heap j m = every_mem (in_heap y.count) all read.heap j m

  was_marked : (j : ℕ) → Mem j all → marked y d j ≡ true
  was_marked j m = every_mem (marked y d) all read.marks j m

  -- ---- the end stored

  abbrev d₁ : List ℕ
  d₁ = end_kept y d a (kept y d a keep)

  last_all : (c : ℕ) (cs : List ℕ) → kept y d a keep ≡ c ∷ cs → last_or c cs < y.count + 2
  last_all c cs q = (in_heap_lem y.count (last_or c cs) (heap (last_or c cs) (kept_all (last_or c cs) (subst (Mem (last_or c cs)) (sym q) (last_in c cs))))).1

  end_long : length d₁ ≡ length d
  end_long = end_case y d a (λ x. length x ≡ length d) (kept y d a keep) refl (λ c cs q t. length_fat y d (last_or c cs) END)

  end_fits : Fits y d₁
  end_fits = fits_kept y d d₁ end_long w

  end_mark : (j : ℕ) → marked y d₁ j ≡ marked y d j
  end_mark j =
      end_case y d a (λ x. marked y x j ≡ marked y d j) (kept y d a keep) refl
      (λ c cs q t. mark_fat y d w (last_or c cs) END j (last_all c cs q))

  end_byte : (j r : ℕ) → cluster_byte y d₁ j r ≡ cluster_byte y d j r
  end_byte j r =
      end_case y d a (λ x. cluster_byte y x j r ≡ cluster_byte y d j r) (kept y d a keep) refl
      (λ c cs q t. cluster_fat y d w (last_or c cs) END j r (last_all c cs q))

  end_fat : (j : ℕ) → in_heap y.count j ≡ true → (a.no_fat_chain ≡ false → j ≢ last_or 0 (kept y d a keep)) → fat_entry y d₁ j ≡ fat_entry y d j
  unfolding last_or
  end_fat j h n =
      end_case y d a (λ x. fat_entry y x j ≡ fat_entry y d j) (kept y d a keep) refl
      (λ c cs q t. fat_fat_other y d w (last_or c cs) END j (last_all c cs q) (in_heap_lem y.count j h).1
      (λ p. n t (p ∙ ap (last_or 0) (sym q))))

  end_last : (c : ℕ) (cs : List ℕ) → kept y d a keep ≡ c ∷ cs → a.no_fat_chain ≡ false → fat_entry y d₁ (last_or c cs) ≡ END
  unfolding end_kept
  end_last c cs q t =
      ap (λ (l : List ℕ). fat_entry y (end_kept y d a l) (last_or c cs)) q
      ∙ ap (λ (b : Bool). fat_entry y (cond b d (set_fat y d (last_or c cs) END)) (last_or c cs)) t
      ∙ fat_fat_same y d w (last_or c cs) END (last_all c cs q) (omega arith)

  -- ---- and the others freed

  abbrev d₂ : List ℕ
  d₂ = free_all y d₁ (freed y d a keep)

  freed_heap : (j : ℕ) → Mem j (freed y d a keep) → in_heap y.count j ≡ true
  freed_heap j m = heap j (freed_all j m)

  cut_long : length d₂ ≡ length d
  cut_long = length-free_all y d₁ (freed y d a keep) ∙ end_long

  cut_marks : (j : ℕ) → in_heap y.count j ≡ true → (Mem j (freed y d a keep) → ⊥) → marked y d₂ j ≡ marked y d j
  cut_marks j h o = free_mark_other y d₁ end_fits (freed y d a keep) freed_heap j h o ∙ end_mark j

  cut_fats : (j : ℕ) → in_heap y.count j ≡ true → (Mem j (freed y d a keep) → ⊥)
      → (a.no_fat_chain ≡ false → j ≢ last_or 0 (kept y d a keep)) → fat_entry y d₂ j ≡ fat_entry y d j
  cut_fats j h o n = free_fat_other y d₁ end_fits (freed y d a keep) freed_heap j h o ∙ end_fat j h n

  -- a kept cluster is not freed
  not_freed : (j : ℕ) → Mem j (kept y d a keep) → Mem j (freed y d a keep) → ⊥
  not_freed j m o = distinct_apart (kept y d a keep) (freed y d a keep) apart j m o

  cut_ended : (c : ℕ) (cs : List ℕ) → kept y d a keep ≡ c ∷ cs → a.no_fat_chain ≡ false → fat_entry y d₂ (last_or c cs) ≡ END
  cut_ended c cs q t =
      let m = subst (Mem (last_or c cs)) (sym q) (last_in c cs) in
      free_fat_other y d₁ end_fits (freed y d a keep) freed_heap (last_or c cs) (heap (last_or c cs) (kept_all (last_or c cs) m)) (not_freed (last_or c cs) m)
      ∙ end_last c cs q t

  cut_counts : marked_count y d₂ + length (freed y d a keep) ≡ marked_count y d
  cut_counts =
      free_counts y d₁ end_fits (freed y d a keep) freed_heap (distinct_right (kept y d a keep) (freed y d a keep) apart)
      (λ j m. end_mark j ∙ was_marked j (freed_all j m))
      ∙ (unfold marked_count in (count_cong (marked y d) (marked y d₁) 2 y.count (λ j l h. end_mark j)))

  cut-read : (ks : List ℕ) → kept y d a keep ≡ ks → stream_of y d₂ (kept_record a ks) ≡ listed ks
  unfolding stream_of
  cut-read [] q = stream_empty y.count (fat_entry y d₂) (marked y d₂) (kept_record a []) (unfold kept_record in refl)
  cut-read (c ∷ cs) q =
      cut-reads y.count small (fat_entry y d) (fat_entry y d₂) (marked y d) (marked y d₂) a c cs (freed y d a keep)
      (subst (Read y.count (fat_entry y d) (marked y d) a) (sym whole ∙ ap (λ (l : List ℕ). l ++ freed y d a keep) q) read)
      (λ j m. cut_marks j (heap j (mine j m)) (not_freed j (subst (Mem j) (sym q) m)))
      (λ t j m n. cut_fats j (heap j (mine j m)) (not_freed j (subst (Mem j) (sym q) m)) (λ _ p. n (p ∙ last_is)))
      (cut_ended c cs q)
    where
      mine : (j : ℕ) → Mem j (c ∷ cs) → Mem j all
      mine j m = kept_all j (subst (Mem j) (sym q) m)

      last_is : last_or 0 (kept y d a keep) ≡ last_or c cs
      last_is = unfold last_or in (ap (last_or 0) q)

  cut_others : (b : Allocation) (js : List ℕ) → stream_of y d b ≡ listed js → ((j : ℕ) → Mem j js → Mem j all → ⊥) → stream_of y d₂ b ≡ listed js
  unfolding stream_of
  cut_others b js p o =
      stream_frame y.count (fat_entry y d) (fat_entry y d₂) (marked y d) (marked y d₂) b js small
      (λ j m. cut_fats j (inside j m) (λ q. o j m (freed_all j q))
      (λ _ q. let i = in_heap_lem y.count j (inside j m) in o j m (kept_all j (last_of j (kept y d a keep) (omega arith) q))))
      (λ j m. cut_marks j (inside j m) (λ q. o j m (freed_all j q))) p
    where
      inside : (j : ℕ) → Mem j js → in_heap y.count j ≡ true
      inside j m = every_mem (in_heap y.count) js (read_facts y.count (fat_entry y d) (marked y d) b js p).heap j m

  pub cut_shrunk : (hint : ℕ) → Shrunk y d a keep (cut y d a keep hint).volume
  unfolding cut
  cut_shrunk hint = record {
    long = cut_long;
    unmarked = free_mark y d₁ end_fits (freed y d a keep) freed_heap;
    zeroed = free_fat y d₁ end_fits (freed y d a keep) freed_heap;
    counts = cut_counts;
    frees = omega (arith, cut_counts, free_is_unmarked y d, free_is_unmarked y d₂);
    ended = cut_ended;
    marks = cut_marks;
    fats = cut_fats;
    bytes = λ j r h b. free_byte y d₁ end_fits (freed y d a keep) freed_heap j r h b ∙ end_byte j r;
    reads = cut-read (kept y d a keep) refl;
    others = cut_others;
  }

-- ---- a call that is not refused and has something to free is a cut

module _ (y : Layout) (d m : List ℕ) (a : Allocation) (keep hint : ℕ) (l : keep < a.count) (e : (shrink_in y d m a keep hint).answer.number ≡ 0) where
  abbrev causes : ℕ
  causes = first_cause (heap_cause y.count hint ∷ shrink_cause y d m a keep ∷ [])

  none_met : (b : Bool) → eqb causes 0 ≡ b → (shrink_in y d m a keep hint ≡ cut y d a keep hint) × (causes ≡ 0)
  none_met true q = (shrink_by y d m a keep hint false 0 (lt-leb a.count keep l) (eqb-true causes 0 q), eqb-true causes 0 q)
  none_met false q =
      absurd (eqb-false causes 0 q
      (ap (λ (o : Outcome). o.answer.number)
      (sym (shrink_by y d m a keep hint false causes (lt-leb a.count keep l) refl ∙ ap (λ (b : Bool). cond b (cut y d a keep hint) (unchanged causes a hint d)) q))
      ∙ e))

  pub shrink_cuts : shrink_in y d m a keep hint ≡ cut y d a keep hint
  shrink_cuts = (none_met (eqb causes 0) refl).0

  shrink_clear : (number_of (stream_of y d a) ≡ 0) × (system_cause m (freed y d a keep) ≡ 0)
  unfolding shrink_cause
  shrink_clear =
      let p = (cause_none (heap_cause y.count hint) (shrink_cause y d m a keep ∷ []) (none_met (eqb causes 0) refl).1).1 in
      let q = (cause_none (shrink_cause y d m a keep) [] p).0 in
      let r = cause_none (number_of (stream_of y d a)) (system_cause m (freed y d a keep) ∷ []) q in
      (r.0, (cause_none (system_cause m (freed y d a keep)) [] r.1).0)

  pub shrink_number : number_of (stream_of y d a) ≡ 0
  shrink_number = shrink_clear.0

  -- no freed cluster is a system cluster
  pub shrink_no_system : (k : ℕ) → Mem k (freed y d a keep) → in_map m k ≡ false
  unfolding system_cause
  shrink_no_system k q =
      not-true (in_map m k) (every_mem (λ j. not (in_map m j)) (freed y d a keep) (by (every (λ j. not (in_map m j)) (freed y d a keep)) refl shrink_clear.1) k q)
    where
      by : (b : Bool) → every (λ j. not (in_map m j)) (freed y d a keep) ≡ b → ◌≡◌ {A = ℕ} (cond b 0 9) 0 → every (λ j. not (in_map m j)) (freed y d a keep) ≡ true
      by true p z = p
      by false p z = absurd (omega arith)

  pub shrink_shrunk : Fits y d → Shrunk y d a keep (shrink_in y d m a keep hint).volume
  shrink_shrunk w = subst (λ (o : Outcome). Shrunk y d a keep o.volume) (sym shrink_cuts) (cut_shrunk y d w a keep shrink_number hint)

  pub shrink_record : (shrink_in y d m a keep hint).answer.allocation ≡ kept_record a (kept y d a keep)
  shrink_record = ap (λ (o : Outcome). o.answer.allocation) shrink_cuts ∙ (unfold cut in refl)
