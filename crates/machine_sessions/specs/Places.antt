-- (ii) of demand 3: what show gives of a gather's places is what its items delivered. Rows and history agree in every session (`session_agrees`), so what an
-- object has come to by the history is what its row says (`outcome-row` of PlacesHold).
pub mod Told
pub mod Telling
pub mod TellingCommit
pub mod TellingAwait
pub mod ToldEnds
pub mod Agrees
pub mod AgreesEvents
pub mod AgreesComplete
pub mod AgreesResults
pub mod AgreesMakes
pub mod AgreesSessions
pub mod PlacesHold
