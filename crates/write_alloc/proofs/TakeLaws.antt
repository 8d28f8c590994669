-- What marking, linking and taking clusters does to a volume, in its tables and cluster by cluster. Assumes nothing.
use mathlib.Core.Path.{◌≡◌, refl, sym, ◌∙◌, ap}
use mathlib.Core.Logic.{◌≢◌}
use mathlib.Core.Bool.{Bool, true, false}
use mathlib.Core.List.{List, [], ◌∷◌, ◌++◌}
use Prim.Native.Nat.{ℕ, zero, suc, ◌+◌, ◌-◌, ◌^◌, ◌≤◌, ◌<◌}
use native.Mathlib.Decide.{ℕ_discrete}
use native.Mathlib.Omega.{arith}
use lib.ListN.{length, take}
use borrow.Author.Tests.{eq-eqb, ne_eqb}
use Rattle.tables.specs.Table.{upd}
use Rattle.tables.specs.Internal.{upd_all}
use Rattle.tables.specs.Lists.{Mem, here, there, Distinct, last_or, consec}
use Rattle.tables.specs.Count.{keep}
use Rattle.tables.proofs.TableLaws.{upd_same, upd_other, all_same, all_other, all-upd}
use Rattle.tables.proofs.ListLaws.{mem_take, take-append, in_consec, consec_in, consec_distinct, length-consec}
use Rattle.tables.proofs.CountLaws.{count_cong, count-all, in_keep}
use Rattle.boot.specs.declared.layout.Layout.{Layout}
use Rattle.boot.specs.Layout.{in_heap}
use Rattle.boot.proofs.Apart.{in_heap_lem, heap_in}
use Rattle.metadata.specs.Fat.{fat_entry, set_fat}
use Rattle.metadata.specs.Marks.{marked, set_mark, mark_run}
use Rattle.metadata.specs.Usable.{is_usable}
use Rattle.metadata.specs.Cluster.{cluster_byte}
use Rattle.metadata.proofs.Frame.{Fits, fits_kept, length_fat, length_mark}
use Rattle.metadata.proofs.View.{Tables, plain, view, with_fat, with_mark, view_fat_at, view_mark_at, view_byte_at, view_set_fat, view_set_mark}
use Rattle.metadata.proofs.Counting.{marked_count}
use Rattle.choice.specs.Choice.{around}
use Rattle.write_alloc.specs.Take.{link_run, take_single, take_each}
use Rattle.write_alloc.specs.Internal.{prev_taken, taken_from}
use Rattle.write_alloc.proofs.Links.{last_append, link_one, link_all, Linked, one_is, link_other, link-linked, link_list, link_cong, linked_cong, link-consec, link_consec_other}
use Rattle.write_alloc.proofs.Taking.{one_first, one_more, one-usable, one_taken, taken_cong}

-- ---- lengths

module _ (y : Layout) where
  pub length-mark_run : (d : List ℕ) (k n : ℕ) → length (mark_run y d k n) ≡ length d
  unfolding mark_run
  length-mark_run d k zero = refl
  length-mark_run d k (suc n) = length-mark_run (set_mark y d k true) (k + 1) n ∙ length_mark y d k true

  pub length-link_run : (d : List ℕ) (k n : ℕ) → length (link_run y d k n) ≡ length d
  unfolding link_run
  length-link_run d k zero = refl
  length-link_run d k (suc n) = length-link_run (set_fat y d k (k + 1)) (k + 1) n ∙ length_fat y d k (k + 1)

  pub length_take_one : (d : List ℕ) (prev k : ℕ) → length (take_single y d prev k) ≡ length d
  length_take_one d prev k =
      elim (ℕ_discrete prev 0) [
        | yes e ↦ rw (one_first y d prev k e) (length_mark y d k true)
        | no e ↦ rw (one_more y d prev k e) (length_fat y (set_mark y d k true) prev k ∙ length_mark y d k true)
      ]

  pub length_take_all : (d : List ℕ) (prev : ℕ) (ks : List ℕ) → length (take_each y d prev ks) ≡ length d
  unfolding take_each
  length_take_all d prev [] = refl
  length_take_all d prev (k ∷ ks) = length_take_all (take_single y d prev k) k ks ∙ length_take_one d prev k

  module _ (d : List ℕ) (w : Fits y d) where
    pub fits_link_run : (k n : ℕ) → Fits y (link_run y d k n)
    fits_link_run k n = fits_kept y d (link_run y d k n) (length-link_run d k n) w

    pub fits_take_all : (prev : ℕ) (ks : List ℕ) → Fits y (take_each y d prev ks)
    fits_take_all prev ks = fits_kept y d (take_each y d prev ks) (length_take_all d prev ks) w

  -- ---- one list after another

  pub take_all_append : (d : List ℕ) (prev : ℕ) (xs zs : List ℕ) → take_each y d prev (xs ++ zs) ≡ take_each y (take_each y d prev xs) (last_or prev xs) zs
  unfolding take_each last_or
  take_all_append d prev [] zs = refl
  take_all_append d prev (k ∷ xs) zs = take_all_append (take_single y d prev k) k xs zs

-- ---- the stores as updates of tables

abbrev pub with_marks : Tables → List ℕ → Tables
with_marks a ks = record { fat = a.fat; mark = upd_all a.mark ks true; byte = a.byte }

abbrev pub with_links : Tables → ℕ → List ℕ → Tables
with_links a prev ks = record { fat = link_all a.fat prev ks; mark = a.mark; byte = a.byte }

abbrev pub with_taken : Tables → ℕ → List ℕ → Tables
with_taken a prev ks = record { fat = link_all a.fat prev ks; mark = upd_all a.mark ks true; byte = a.byte }

-- the marks of a list go on from those of its first
mark_on : (a : Tables) (k : ℕ) (ks : List ℕ) → with_marks (with_mark a k true) ks ≡ with_marks a (k ∷ ks)
unfolding upd_all
mark_on a k ks = ap (λ (f : ℕ → Bool). record { fat = a.fat; mark = f; byte = a.byte }) (all-upd a.mark k true ks)

module _ (y : Layout) where
  pub view_mark_run : (d : List ℕ) → Fits y d → (k n : ℕ) → 2 ≤ k → k + n ≤ y.count + 2 → view y (mark_run y d k n) ≡ with_marks (view y d) (consec k n)
  unfolding mark_run consec
  view_mark_run d w k zero l h = unfold upd_all in refl
  view_mark_run d w k (suc n) l h =
      view_mark_run (set_mark y d k true) (fits_kept y d (set_mark y d k true) (length_mark y d k true) w) (k + 1) n (omega arith) (omega arith)
      ∙ ap (λ a. with_marks a (consec (k + 1) n)) (view_set_mark y d w k true (heap_in y.count k l (omega arith)))
      ∙ mark_on (view y d) k (consec (k + 1) n)

  pub view_link_run : (d : List ℕ) → Fits y d → (k n : ℕ) → 2 ≤ k → k + n ≤ y.count + 2 → view y (link_run y d k n) ≡ with_links (view y d) k (consec (k + 1) n)
  unfolding link_run consec link_all
  view_link_run d w k zero l h = refl
  view_link_run d w k (suc n) l h =
      let c = w.laid in
      view_link_run (set_fat y d k (k + 1)) (fits_kept y d (set_fat y d k (k + 1)) (length_fat y d k (k + 1)) w) (k + 1) n (omega arith) (omega arith)
      ∙ ap (λ a. with_links a (k + 1) (consec (k + 1 + 1) n)) (view_set_fat y d w k (k + 1) (heap_in y.count k l (omega arith)) (omega arith))
      ∙ ap (λ (f : ℕ → ℕ). record { fat = link_all f (k + 1) (consec (k + 1 + 1) n); mark = (view y d).mark; byte = (view y d).byte })
      (sym (one_is (view y d).fat k (k + 1) (omega arith)))

  -- the one before is none, or a cluster
  abbrev pub Before : ℕ → Type 0
  Before prev = prev ≢ 0 → in_heap y.count prev ≡ true

  -- the clusters of a list lie in the heap
  abbrev pub Inside : List ℕ → Type 0
  Inside ks = (k : ℕ) → Mem k ks → in_heap y.count k ≡ true

  view_take_one : (d : List ℕ) → Fits y d → (prev k : ℕ) → Before prev → in_heap y.count k ≡ true
      → view y (take_single y d prev k) ≡ record { fat = link_one (view y d).fat prev k; mark = upd (view y d).mark k true; byte = (view y d).byte }
  view_take_one d w prev k p h =
      elim (ℕ_discrete prev 0) [
        | yes e ↦ rw (one_first y d prev k e, eq-eqb prev 0 e) marks
        | no e ↦ rw (one_more y d prev k e, ne_eqb prev 0 e)
            (view_set_fat y (set_mark y d k true) (fits_kept y d (set_mark y d k true) (length_mark y d k true) w) prev k (p e) small
            ∙ ap (λ a. with_fat a prev k) marks)
      ]
    where
      marks : view y (set_mark y d k true) ≡ with_mark (view y d) k true
      marks = view_set_mark y d w k true h

      small : k < 2 ^ 32
      small = let i = in_heap_lem y.count k h in let c = w.laid in omega arith

  pub view_take_all : (d : List ℕ) → Fits y d → (prev : ℕ) (ks : List ℕ) → Before prev → Inside ks
      → view y (take_each y d prev ks) ≡ with_taken (view y d) prev ks
  unfolding take_each link_all
  view_take_all d w prev [] p h = unfold upd_all in refl
  view_take_all d w prev (k ∷ ks) p h =
      view_take_all (take_single y d prev k) (fits_kept y d (take_single y d prev k) (length_take_one y d prev k) w) k ks (λ _. h k (here refl)) (λ j m. h j (there m))
      ∙ ap (λ a. with_taken a k ks) (view_take_one d w prev k p (h k (here refl)))
      ∙ mark_on (record { fat = link_all (link_one (view y d).fat prev k) k ks; mark = (view y d).mark; byte = (view y d).byte }) k ks

-- ---- cluster by cluster

module _ (y : Layout) (d : List ℕ) (t : Tables) (e : view y d ≡ t) where
  pub mark_is : (j : ℕ) → in_heap y.count j ≡ true → marked y d j ≡ t.mark j
  mark_is j h = sym (view_mark_at y d j h) ∙ ap (λ (a : Tables). a.mark j) e

  pub fat_is : (j : ℕ) → in_heap y.count j ≡ true → fat_entry y d j ≡ t.fat j
  fat_is j h = sym (view_fat_at y d j h) ∙ ap (λ (a : Tables). a.fat j) e

  pub byte_is_lem : (j r : ℕ) → plain y j ≡ true → r < y.size → cluster_byte y d j r ≡ t.byte j r
  byte_is_lem j r h b = sym (view_byte_at y d j r h b) ∙ ap (λ (a : Tables). a.byte j r) e

module _ (y : Layout) (d : List ℕ) (w : Fits y d) where
  -- the marks of a list of clusters that were not marked count for themselves
  count_marks : (d' : List ℕ) (ks : List ℕ) → ((j : ℕ) → in_heap y.count j ≡ true → marked y d' j ≡ upd_all (marked y d) ks true j)
      → Inside y ks → Distinct ks → ((k : ℕ) → Mem k ks → marked y d k ≡ false) → marked_count y d' ≡ marked_count y d + length ks
  unfolding marked_count
  count_marks d' ks s i q f =
      count_cong (upd_all (marked y d) ks true) (marked y d') 2 y.count (λ j a b. s j (heap_in y.count j a (omega arith)))
      ∙ omega (
        arith,
        count-all (marked y d) 2 y.count ks true false q
            (λ k m. let r = in_heap_lem y.count k (i k m) in (r.0, omega arith, f k m)),
      )

  -- the marks after those of a list are set
  marks_at : (ks : List ℕ) (j : ℕ) → in_heap y.count j ≡ true → upd_all (view y d).mark ks true j ≡ upd_all (marked y d) ks true j
  unfolding upd_all
  marks_at [] j h = view_mark_at y d j h
  marks_at (k ∷ ks) j h =
      elim (ℕ_discrete j k) [
        | yes e ↦ rw (e, upd_same (upd_all (view y d).mark ks true) k true, upd_same (upd_all (marked y d) ks true) k true)
        | no n ↦ rw (upd_other (upd_all (view y d).mark ks true) k true j n, upd_other (upd_all (marked y d) ks true) k true j n) (marks_at ks j h)
      ]

  -- a run marked
  module _ (k n : ℕ) (low : 2 ≤ k) (high : k + n ≤ y.count + 2) where
    run_view : view y (mark_run y d k n) ≡ with_marks (view y d) (consec k n)
    run_view = view_mark_run y d w k n low high

    pub run_marks : (j : ℕ) → in_heap y.count j ≡ true → marked y (mark_run y d k n) j ≡ upd_all (marked y d) (consec k n) true j
    run_marks j h = mark_is y (mark_run y d k n) (with_marks (view y d) (consec k n)) run_view j h ∙ marks_at (consec k n) j h

    pub run_mark : (j : ℕ) → k ≤ j → j < k + n → marked y (mark_run y d k n) j ≡ true
    run_mark j a b =
        run_marks j (heap_in y.count j (omega arith) (omega arith)) ∙ all_same (marked y d) (consec k n) true j (consec_in k n j a b)

    pub run_mark_other : (j : ℕ) → in_heap y.count j ≡ true → ((k ≤ j) × (j < k + n) → ⊥) → marked y (mark_run y d k n) j ≡ marked y d j
    run_mark_other j h o = run_marks j h ∙ all_other (marked y d) (consec k n) true j (λ m. o (in_consec k n j m))

    pub run_fat : (j : ℕ) → in_heap y.count j ≡ true → fat_entry y (mark_run y d k n) j ≡ fat_entry y d j
    run_fat j h = fat_is y (mark_run y d k n) (with_marks (view y d) (consec k n)) run_view j h ∙ view_fat_at y d j h

    pub run_byte : (j r : ℕ) → plain y j ≡ true → r < y.size → cluster_byte y (mark_run y d k n) j r ≡ cluster_byte y d j r
    run_byte j r h b = byte_is_lem y (mark_run y d k n) (with_marks (view y d) (consec k n)) run_view j r h b ∙ view_byte_at y d j r h b

    pub run-count_marks : ((j : ℕ) → k ≤ j → j < k + n → marked y d j ≡ false) → marked_count y (mark_run y d k n) ≡ marked_count y d + n
    run-count_marks f =
        count_marks (mark_run y d k n) (consec k n) run_marks
        (λ j m. let i = in_consec k n j m in heap_in y.count j (omega arith) (omega arith))
        (consec_distinct k n) (λ j m. let i = in_consec k n j m in f j i.0 i.1)
        ∙ ap (λ (x : ℕ). marked_count y d + x) (length-consec k n)

    -- a run linked
    link_view : view y (link_run y d k n) ≡ with_links (view y d) k (consec (k + 1) n)
    link_view = view_link_run y d w k n low high

    pub run-link : (j : ℕ) → k ≤ j → j < k + n → fat_entry y (link_run y d k n) j ≡ j + 1
    run-link j a b =
        fat_is y (link_run y d k n) (with_links (view y d) k (consec (k + 1) n)) link_view j (heap_in y.count j (omega arith) (omega arith))
        ∙ link-consec (view y d).fat k n j (omega arith) a b

    pub run-link_other : (j : ℕ) → in_heap y.count j ≡ true → ((k ≤ j) × (j < k + n) → ⊥) → fat_entry y (link_run y d k n) j ≡ fat_entry y d j
    run-link_other j h o =
        fat_is y (link_run y d k n) (with_links (view y d) k (consec (k + 1) n)) link_view j h
        ∙ link_consec_other (view y d).fat k n j o ∙ view_fat_at y d j h

    pub run-link_byte : (j r : ℕ) → plain y j ≡ true → r < y.size → cluster_byte y (link_run y d k n) j r ≡ cluster_byte y d j r
    run-link_byte j r h b = byte_is_lem y (link_run y d k n) (with_links (view y d) k (consec (k + 1) n)) link_view j r h b ∙ view_byte_at y d j r h b

  -- a list taken
  module _ (prev : ℕ) (ks : List ℕ) (before : Before y prev) (inside : Inside y ks) where
    taken_view : view y (take_each y d prev ks) ≡ with_taken (view y d) prev ks
    taken_view = view_take_all y d w prev ks before inside

    pub taken_marks : (j : ℕ) → in_heap y.count j ≡ true → marked y (take_each y d prev ks) j ≡ upd_all (marked y d) ks true j
    taken_marks j h = mark_is y (take_each y d prev ks) (with_taken (view y d) prev ks) taken_view j h ∙ marks_at ks j h

    pub taken_mark : (j : ℕ) → Mem j ks → marked y (take_each y d prev ks) j ≡ true
    taken_mark j m = taken_marks j (inside j m) ∙ all_same (marked y d) ks true j m

    pub taken_mark_other : (j : ℕ) → in_heap y.count j ≡ true → (Mem j ks → ⊥) → marked y (take_each y d prev ks) j ≡ marked y d j
    taken_mark_other j h o = taken_marks j h ∙ all_other (marked y d) ks true j o

    pub taken_fat : (j : ℕ) → in_heap y.count j ≡ true → fat_entry y (take_each y d prev ks) j ≡ link_all (fat_entry y d) prev ks j
    taken_fat j h =
        fat_is y (take_each y d prev ks) (with_taken (view y d) prev ks) taken_view j h
        ∙ link_cong (view y d).fat (fat_entry y d) prev ks j (view_fat_at y d j h)

    pub taken_fat_other : (j : ℕ) → in_heap y.count j ≡ true → j ≢ prev → (Mem j ks → ⊥) → fat_entry y (take_each y d prev ks) j ≡ fat_entry y d j
    taken_fat_other j h n o = taken_fat j h ∙ link_other (fat_entry y d) prev ks j n o

    pub taken_byte : (j r : ℕ) → plain y j ≡ true → r < y.size → cluster_byte y (take_each y d prev ks) j r ≡ cluster_byte y d j r
    taken_byte j r h b = byte_is_lem y (take_each y d prev ks) (with_taken (view y d) prev ks) taken_view j r h b ∙ view_byte_at y d j r h b

    module _ (distinct : Distinct ks) where
      pub taken_count : ((k : ℕ) → Mem k ks → marked y d k ≡ false) → marked_count y (take_each y d prev ks) ≡ marked_count y d + length ks
      taken_count f = count_marks (take_each y d prev ks) ks taken_marks inside distinct f

      -- no cluster is 0
      no_zero : Mem 0 ks → ⊥
      no_zero m = let i = in_heap_lem y.count 0 (inside 0 m) in omega arith

      -- the entries of the clusters taken lead from one to the next
      pub taken_linked : Linked (fat_entry y (take_each y d prev ks)) ks
      taken_linked = linked_cong (link_all (fat_entry y d) prev ks) (fat_entry y (take_each y d prev ks)) ks
          (λ k m. taken_fat k (inside k m)) (link_list (fat_entry y d) prev ks no_zero distinct)

      -- and from the one before to the first of them
      pub taken_joined : prev ≢ 0 → (Mem prev ks → ⊥) → Linked (fat_entry y (take_each y d prev ks)) (prev ∷ ks)
      taken_joined n o = linked_cong (link_all (fat_entry y d) prev ks) (fat_entry y (take_each y d prev ks)) (prev ∷ ks)
          at (link-linked (fat_entry y d) prev ks n no_zero o distinct)
        where
          at : (k : ℕ) → Mem k (prev ∷ ks) → fat_entry y (take_each y d prev ks) k ≡ link_all (fat_entry y d) prev ks k
          at k (here e) = taken_fat k (rw e (before n))
          at k (there m) = taken_fat k (inside k m)

-- ---- taking goes on

module _ (y : Layout) (m : List ℕ) where
  -- a cluster's number is below the end of the heap
  before_lt : (prev : ℕ) → Before y prev → prev < y.count + 2
  before_lt prev b = elim (ℕ_discrete prev 0) [ yes e ↦ omega arith | no n ↦ (in_heap_lem y.count prev (b n)).1 ]

  one_on : (d : List ℕ) → Fits y d → (prev k : ℕ) → Before y prev → in_heap y.count k ≡ true → prev_taken y (take_single y d prev k) k ≡ true
  one_on d w prev k b h =
      let i = in_heap_lem y.count k h in
      one_taken y d (take_single y d prev k) prev k w.laid w.apart w.long i.0 i.1 (before_lt prev b) refl

  -- the last one is taken
  pub taken_prev : (d : List ℕ) → Fits y d → (prev : ℕ) (ks : List ℕ) → Before y prev → Inside y ks → prev_taken y d prev ≡ true
      → prev_taken y (take_each y d prev ks) (last_or prev ks) ≡ true
  unfolding take_each last_or
  taken_prev d w prev [] b h t = t
  taken_prev d w prev (k ∷ ks) b h t =
      taken_prev (take_single y d prev k) (fits_kept y d (take_single y d prev k) (length_take_one y d prev k) w) k ks
      (λ _. h k (here refl)) (λ j q. h j (there q)) (one_on d w prev k b (h k (here refl)))

  -- the clusters that are not taken stay usable or not
  pub taken_usable : (d : List ℕ) → Fits y d → (prev : ℕ) (ks : List ℕ) → Before y prev → Inside y ks → prev_taken y d prev ≡ true
      → (j : ℕ) → in_heap y.count j ≡ true → (Mem j ks → ⊥) → is_usable y (take_each y d prev ks) m j ≡ is_usable y d m j
  unfolding take_each
  taken_usable d w prev [] b h t j i o = refl
  taken_usable d w prev (k ∷ ks) b h t j i o =
      taken_usable (take_single y d prev k) (fits_kept y d (take_single y d prev k) (length_take_one y d prev k) w) k ks
      (λ _. h k (here refl)) (λ j q. h j (there q)) (one_on d w prev k b (h k (here refl))) j i (λ q. o (there q))
      ∙ one-usable y d w prev k (h k (here refl)) (before_lt prev b) t m j i (λ e. o (here e))

  -- usable clusters taken from start to the end, then from 2: the first n of those around start
  module _ (d : List ℕ) (w : Fits y d) (prev n start : ℕ) (b : Before y prev) (t : prev_taken y d prev ≡ true)
      (low : 2 ≤ start) (high : start ≤ y.count + 2) where
    abbrev after : List ℕ
    after = taken_from y d m start (y.count + 2) n

    after_facts : (k : ℕ) → Mem k after → (start ≤ k) × (in_heap y.count k ≡ true)
    unfolding taken_from
    after_facts k q =
        let r = in_keep (is_usable y d m) start (y.count + 2 - start) k (mem_take n (keep (is_usable y d m) start (y.count + 2 - start)) q) in
        (r.0, heap_in y.count k (omega arith) (omega arith))

    rest_same : (left : ℕ) → taken_from y (take_each y d prev after) m 2 start left ≡ taken_from y d m 2 start left
    rest_same left =
        taken_cong y d (take_each y d prev after) m 2 start left
        (λ j l h. taken_usable d w prev after b (λ k q. (after_facts k q).1) t j (heap_in y.count j l (omega arith))
        (λ q. let r = after_facts j q in omega (arith, r.0)))

    pub taken_around : after ++ taken_from y (take_each y d prev after) m 2 start (n - length after) ≡ take n (around (is_usable y d m) y.count start)
    taken_around =
        ap (λ (ks : List ℕ). after ++ ks) (rest_same (n - length after))
        ∙ sym (unfold taken_from around in (take-append n (keep (is_usable y d m) start (y.count + 2 - start)) (keep (is_usable y d m) 2 (start - 2))))

    pub taken_twice : take_each y (take_each y d prev after) (last_or prev after) (taken_from y (take_each y d prev after) m 2 start (n - length after))
        ≡ take_each y d prev (take n (around (is_usable y d m) y.count start))
    taken_twice =
        sym (take_all_append y d prev after (taken_from y (take_each y d prev after) m 2 start (n - length after))) ∙ ap (take_each y d prev) taken_around

    pub last_twice : last_or (last_or prev after) (taken_from y (take_each y d prev after) m 2 start (n - length after))
        ≡ last_or prev (take n (around (is_usable y d m) y.count start))
    last_twice =
        sym (last_append prev after (taken_from y (take_each y d prev after) m 2 start (n - length after))) ∙ ap (last_or prev) taken_around
