-- Edges by kind, and the orders in which findings are listed (this project's own).
use Rattle.std.specs.Prelude.{ℕ, List, [], ◌∷◌}
use Rattle.sia_events.specs.declared.event.Event.{Event}
use Rattle.sia_events.specs.Dependencies.{WwEdge, WrEdge, RwEdge}
use Rattle.sia_parts.specs.declared.finding.BadRead.{BadRead}
use Rattle.sia_parts.specs.declared.finding.BadWrite.{BadWrite}
use Rattle.sia_parts.specs.declared.finding.Unexplained.{Unexplained}
use Rattle.sia_parts.specs.declared.finding.Edge.{Edge}
use Rattle.sia_parts.specs.declared.finding.Kind.{Kind}
use Rattle.sia_parts.specs.declared.finding.Kind.TheVariants.{Ww, Wr, Rw}

abbrev pub EdgeOfKind : List Event → Kind → ℕ → ℕ → ℕ → Type 0
EdgeOfKind h Ww t u k = WwEdge h t u k
EdgeOfKind h Wr t u k = WrEdge h t u k
EdgeOfKind h Rw t u k = RwEdge h t u k

abbrev pub IsEdge : List Event → Edge → Type 0
IsEdge h e = EdgeOfKind h e.kind e.src e.dst e.key

abbrev pub kind_number : Kind → ℕ
kind_number Ww = 0
kind_number Wr = 1
kind_number Rw = 2

-- bad reads go by place and key, bad writes by key, first and second, unexplained reads by place and key, edges by source, target, kind and key
abbrev pub bad_read_rank : BadRead → List ℕ
bad_read_rank b = b.place ∷ b.key ∷ []

abbrev pub bad_write_rank : BadWrite → List ℕ
bad_write_rank b = b.key ∷ b.first ∷ b.second ∷ []

abbrev pub unexplained_rank : Unexplained → List ℕ
unexplained_rank b = b.place ∷ b.key ∷ []

abbrev pub edge_rank : Edge → List ℕ
edge_rank e = e.src ∷ e.dst ∷ kind_number e.kind ∷ e.key ∷ []
