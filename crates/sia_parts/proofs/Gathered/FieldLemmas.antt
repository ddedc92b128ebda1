-- The lists of what the parts found, one behind another and put in order, are those of all keys.
use Rattle.std.proofs.Common.{◌≡◌, ℕ, List, []}
use Rattle.std.specs.List.{AllZip}
use Rattle.std.specs.List.Sorted.{IsStrictlySortedBy}
use Rattle.std.specs.Ordering.{nat_cmp, ordering_then}
use Rattle.std.specs.Prelude.{Contains, ⊤}
use Rattle.std.specs.declared.cmp.Ordering.{Ordering}
use Rattle.std.specs.declared.cmp.Ordering.TheVariants.{Less}
use Rattle.sia_events.specs.declared.event.Event.{Event}
use Rattle.sia_events.specs.Lists.{Precedes}
use Rattle.sia_events.specs.Refusals.{IsWellFormed}
use Rattle.sia_events.specs.Isolation.{IsBadRead, IsBadWrite, IsUnexplained}
use Rattle.sia_parts.specs.declared.cutting.Part.{Part}
use Rattle.sia_parts.specs.declared.finding.BadRead.{BadRead}
use Rattle.sia_parts.specs.declared.finding.BadWrite.{BadWrite}
use Rattle.sia_parts.specs.declared.finding.Unexplained.{Unexplained}
use Rattle.sia_parts.specs.declared.finding.Edge.{Edge}
use Rattle.sia_parts.specs.Parts.{IsCutting, IsInPart}
use Rattle.sia_parts.specs.Entries.{IsEdge, bad_read_rank, bad_write_rank, unexplained_rank, edge_rank}
use Rattle.sia_parts.specs.Findings.{ListsBadReads, ListsBadWrites, ListsUnexplained, ListsEdges}
use Rattle.sia_parts.specs.Sights.{Adds, FromSome}
use Rattle.sia_parts.proofs.Gathered.FindingLemmas.{all_listed}
use Rattle.sia_parts.proofs.Auditing.KeyLemmas.{seen_key, written_key, edge_key}
use Rattle.sia_parts.proofs.Shared.Listing.{bad_read_before, bad_write_before, unexplained_before}

-- ys is put in order by c, and has what xs has
pub record IsPut {A : Type 0} (c : A → A → Ordering) (xs ys : List A) : Type 0 where
  pub sorted : IsStrictlySortedBy c ys
  pub keeps : (x : A) → Contains xs x → Contains ys x
  pub adds_none : (x : A) → Contains ys x → Contains xs x

abbrev pub bad_read_cmp : BadRead → BadRead → Ordering
bad_read_cmp x y = ordering_then (nat_cmp x.place y.place) (ordering_then (nat_cmp x.txn y.txn) (ordering_then (nat_cmp x.key y.key) (ordering_then (nat_cmp x.saw y.saw) (nat_cmp x.due y.due))))

abbrev pub bad_write_cmp : BadWrite → BadWrite → Ordering
bad_write_cmp x y = ordering_then (nat_cmp x.key y.key) (ordering_then (nat_cmp x.first y.first) (nat_cmp x.second y.second))

abbrev pub unexplained_cmp : Unexplained → Unexplained → Ordering
unexplained_cmp x y = ordering_then (nat_cmp x.place y.place) (ordering_then (nat_cmp x.txn y.txn) (ordering_then (nat_cmp x.key y.key) (nat_cmp x.saw y.saw)))

module _ (h : List Event) (points : List ℕ) (cutting : List Part) (wf : IsWellFormed h) (cuts : IsCutting points cutting) {F : Type 0} (R : Part → F → Type 0) (founds : List F) (zip : AllZip R cutting founds) where
  pub bad_reads_all : (list : F → List BadRead) → ((part : Part) (found : F) → R part found → ListsBadReads h (IsInPart part) (list found)) → (xs ys : List BadRead) → Adds (FromSome (λ found. Contains (list found)) founds) [] xs → IsPut bad_read_cmp xs ys → ListsBadReads h (λ _. ⊤) ys
  bad_reads_all list fits xs ys adds put = all_listed bad_read_rank (λ b. b.key) (λ b. IsBadRead h b.place b.txn b.key b.saw b.due) (λ b f. seen_key h wf b.place b.txn b.key b.saw f.0) points cutting cuts
      R list fits founds zip bad_read_cmp (bad_read_before h wf) xs ys adds put.sorted put.keeps put.adds_none

  pub bad_writes_all : (list : F → List BadWrite) → ((part : Part) (found : F) → R part found → ListsBadWrites h (IsInPart part) (list found)) → (xs ys : List BadWrite) → Adds (FromSome (λ found. Contains (list found)) founds) [] xs → IsPut bad_write_cmp xs ys → ListsBadWrites h (λ _. ⊤) ys
  bad_writes_all list fits xs ys adds put = all_listed bad_write_rank (λ b. b.key) (λ b. IsBadWrite h b.key b.first b.second) (λ b f. written_key h wf b.first b.key f.0) points cutting cuts
      R list fits founds zip bad_write_cmp (λ x y p q. bad_write_before x y) xs ys adds put.sorted put.keeps put.adds_none

  pub unexplained_all : (list : F → List Unexplained) → ((part : Part) (found : F) → R part found → ListsUnexplained h (IsInPart part) (list found)) → (xs ys : List Unexplained) → Adds (FromSome (λ found. Contains (list found)) founds) [] xs → IsPut unexplained_cmp xs ys → ListsUnexplained h (λ _. ⊤) ys
  unexplained_all list fits xs ys adds put = all_listed unexplained_rank (λ b. b.key) (λ b. IsUnexplained h b.place b.txn b.key b.saw) (λ b f. seen_key h wf b.place b.txn b.key b.saw f.1) points cutting cuts
      R list fits founds zip unexplained_cmp (unexplained_before h wf) xs ys adds put.sorted put.keeps put.adds_none

  pub edges_all : (list : F → List Edge) → ((part : Part) (found : F) → R part found → ListsEdges h (IsInPart part) (list found)) → (c : Edge → Edge → Ordering) → ((x y : Edge) → c x y ≡ Less → Precedes (edge_rank x) (edge_rank y)) → (xs ys : List Edge) → Adds (FromSome (λ found. Contains (list found)) founds) [] xs → IsPut c xs ys → ListsEdges h (λ _. ⊤) ys
  edges_all list fits c before xs ys adds put = all_listed edge_rank (λ e. e.key) (IsEdge h) (λ e f. edge_key h wf e.kind e.src e.dst e.key f) points cutting cuts
      R list fits founds zip c (λ x y p q. before x y) xs ys adds put.sorted put.keeps put.adds_none
