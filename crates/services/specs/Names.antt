-- The service whose name begins a part of a file, by the table of services, without those that no list holds.
-- It rests on that table, and on what it is for bytes to begin with others.
use Rattle.std.specs.Prelude.{ℕ, ◌+◌, Bool, cond, ◌&&◌, Option, Some, None, List, [], ◌∷◌, ◌++◌, length}
use Rattle.text.specs.Bytes.{bytes, begins}
use Rattle.model.specs.Services.{Service, services}
use Rattle.services.specs.declared.names.Name.{Name}

-- a name's bytes with the comma after it
unfoldable pub label : Service → List ℕ
label x = bytes x.name ++ bytes ","

-- the service of the number k, if its label t begins s
unfoldable pub labelled : List ℕ → List ℕ → ℕ → Option Name
labelled s t k = cond (begins s t) (Some (record { number = k; next = length t })) None

-- lists hold its name, and its label begins s
abbrev pub begun : List ℕ → Service → Bool
begun s x = x.in_lists && begins s (label x)

-- the first of the services from the number k on whose label so begins s
unfoldable pub name_in : List Service → ℕ → List ℕ → Option Name
name_in [] k s = None
name_in (x ∷ xs) k s = cond (begun s x) (Some (record { number = k; next = length (label x) })) (name_in xs (k + 1) s)

unfoldable pub name_of : List ℕ → Option Name
name_of s = name_in services 1 s
