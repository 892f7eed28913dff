-- Records as bytes, and what they are read as: the worked example of document 01, and what its refusal 11 names. (RecordCasesHold proves
-- the whole table.)
use Rattle.std.specs.Prelude.{None, Some}
use Rattle.std.specs.Prelude.{ℕ, List, [], ◌∷◌, ◌++◌, replicate}
use Rattle.asyncio.specs.Numbers.{heap_id}
use Rattle.asyncio.specs.declared.Value.{Value}
use Rattle.drive_reader.specs.declared.Record.{Record}
use Rattle.drive_reader.specs.Parsed.{Parsed, at_end, no_record, a_record}
use Rattle.drive_reader.specs.Format.{parse}

-- bytes, a place in them, and what is read there
pub record Case : Type 0 where
  pub bytes : List ℕ
  pub at : ℕ
  pub reads : Parsed

-- what the format says
unfoldable pub seen : Case → Parsed
seen c = parse c.bytes c.at

-- what the row says
unfoldable pub expected : Case → Parsed
expected c = c.reads

-- ---- short names for the rows

-- the mark, a kind, and what stands behind it
abbrev marked : ℕ → List ℕ → List ℕ
marked kind rest = 195 ∷ 89 ∷ kind ∷ rest

-- a number below 256 in eight bytes
abbrev eight : ℕ → List ℕ
eight n = n ∷ 0 ∷ 0 ∷ 0 ∷ 0 ∷ 0 ∷ 0 ∷ 0 ∷ []

-- a plain value below 256
abbrev plain : ℕ → List ℕ
plain n = 0 ∷ eight n

-- "coroutine 7; call; pending 0 without stored value; gather 0,1,0; await 2; complete plain 40; results 0 return plain 5; resume; show 2;
-- complete plain 9"
unfoldable pub worked_example : List ℕ
worked_example =
    marked 1 (7 ∷ 0 ∷ 0 ∷ 0 ∷ [])
    ++ marked 2 []
    ++ marked 3 (0 ∷ 0 ∷ 0 ∷ 0 ∷ 0 ∷ plain 0)
    ++ marked 5 (3 ∷ 0 ∷ 0 ∷ 1 ∷ 0 ∷ 0 ∷ 0 ∷ [])
    ++ marked 6 (2 ∷ 0 ∷ [])
    ++ marked 7 (plain 40)
    ++ marked 9 (1 ∷ 0 ∷ 0 ∷ 0 ∷ 0 ∷ 0 ∷ plain 5)
    ++ marked 10 []
    ++ marked 12 (2 ∷ 0 ∷ [])
    ++ marked 7 (plain 9)

-- a record of the worked example
abbrev example : ℕ → Record → ℕ → Case
example at r next = record { bytes = worked_example; at = at; reads = a_record r next }

-- bytes that are one record
abbrev one : List ℕ → Record → ℕ → Case
one s r next = record { bytes = s; at = 0; reads = a_record r next }

-- bytes that are refused
abbrev refused : List ℕ → Case
refused s = record { bytes = s; at = 0; reads = no_record }

-- a place where no byte is left
abbrev ends : List ℕ → ℕ → Case
ends s at = record { bytes = s; at = at; reads = at_end }

unfoldable pub cases : List Case
cases =
    -- the worked example, and its end
    example 0 (Record.Coroutine 7) 7
    ∷ example 7 Record.Call 10
    ∷ example 10 (Record.Pending 0 None) 27
    ∷ example 27 (Record.Gather 31 3) 37
    ∷ example 37 (Record.Await 2) 42
    ∷ example 42 (Record.Complete (Value.Plain 40)) 54
    ∷ example 54 (Record.Results 58 1) 72
    ∷ example 72 Record.Resume 75
    ∷ example 75 (Record.Show 2) 80
    ∷ example 80 (Record.Complete (Value.Plain 9)) 92
    ∷ ends worked_example 92
    ∷ ends worked_example 93
    ∷ ends [] 0
    -- the kinds that it has not
    ∷ one (marked 3 (0 ∷ 1 ∷ 0 ∷ 0 ∷ 1 ∷ plain 8)) (Record.Pending 256 (Some (Value.Plain 8))) 17
    ∷ one (marked 4 (1 ∷ eight 2)) (Record.Settled (Value.List (heap_id 2))) 12
    ∷ one (marked 8 (4 ∷ 0 ∷ 0 ∷ 1 ∷ [])) (Record.Fail 16777220) 7
    ∷ one (marked 11 (1 ∷ 1 ∷ [])) (Record.Cancel 257) 5
    ∷ one (marked 13 []) Record.Eager 3
    -- the mark: half of it, without a kind, another one, the wrong way round
    ∷ refused (195 ∷ [])
    ∷ refused (195 ∷ 89 ∷ [])
    ∷ refused (195 ∷ 90 ∷ 2 ∷ [])
    ∷ refused (89 ∷ 195 ∷ 2 ∷ [])
    -- kinds that there are not
    ∷ refused (marked 0 [])
    ∷ refused (marked 14 [])
    ∷ refused (marked 255 [])
    -- one byte too few
    ∷ refused (marked 1 (7 ∷ 0 ∷ 0 ∷ []))
    ∷ refused (marked 3 (0 ∷ 0 ∷ 0 ∷ 0 ∷ 0 ∷ eight 0))
    ∷ refused (marked 4 (eight 0))
    ∷ refused (marked 5 [])
    ∷ refused (marked 5 (2 ∷ 0 ∷ 0 ∷ 1 ∷ []))
    ∷ refused (marked 6 (2 ∷ []))
    ∷ refused (marked 9 (1 ∷ replicate 13 0))
    ∷ refused (marked 9 (255 ∷ replicate 3569 0))
    -- pending: at flag 0 no byte of the value counts; flags above 1; a tag above 1
    ∷ one (marked 3 (0 ∷ 0 ∷ 0 ∷ 0 ∷ 0 ∷ replicate 9 255)) (Record.Pending 0 None) 17
    ∷ refused (marked 3 (0 ∷ 0 ∷ 0 ∷ 0 ∷ 2 ∷ plain 0))
    ∷ refused (marked 3 (0 ∷ 0 ∷ 0 ∷ 0 ∷ 1 ∷ 2 ∷ eight 0))
    -- tags above 1, and in results, where nothing is looked at
    ∷ refused (marked 4 (2 ∷ eight 0))
    ∷ refused (marked 7 (255 ∷ eight 0))
    ∷ one (marked 9 (1 ∷ replicate 14 255)) (Record.Results 4 1) 18
    -- counts up to 255, and none
    ∷ one (marked 5 (255 ∷ replicate 510 0)) (Record.Gather 4 255) 514
    ∷ one (marked 9 (255 ∷ replicate 3570 0)) (Record.Results 4 255) 3574
    ∷ one (marked 5 (0 ∷ [])) (Record.Gather 4 0) 4
    ∷ one (marked 9 (0 ∷ [])) (Record.Results 4 0) 4
    -- lists 65,534, 65,535, 65,536 and 2^32 + 2
    ∷ one (marked 7 (1 ∷ 254 ∷ 255 ∷ 0 ∷ 0 ∷ 0 ∷ 0 ∷ 0 ∷ 0 ∷ [])) (Record.Complete (Value.List (heap_id 65534))) 12
    ∷ one (marked 7 (1 ∷ 255 ∷ 255 ∷ 0 ∷ 0 ∷ 0 ∷ 0 ∷ 0 ∷ 0 ∷ [])) (Record.Complete (Value.List (heap_id 65535))) 12
    ∷ one (marked 7 (1 ∷ 0 ∷ 0 ∷ 1 ∷ 0 ∷ 0 ∷ 0 ∷ 0 ∷ 0 ∷ [])) (Record.Complete (Value.List (heap_id 65535))) 12
    ∷ one (marked 7 (1 ∷ 2 ∷ 0 ∷ 0 ∷ 0 ∷ 1 ∷ 0 ∷ 0 ∷ 0 ∷ [])) (Record.Complete (Value.List (heap_id 65535))) 12
    ∷ []
