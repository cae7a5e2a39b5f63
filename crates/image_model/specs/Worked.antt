-- Worked files, whose bytes were worked out by hand from the format or by another program. They stand apart; no
-- definition uses them.
pub mod Samples
pub mod OneObject
pub mod Program
pub mod Forwarder
pub mod Iterated
pub mod Straddling
pub mod Choices
pub mod ReadAgain
pub mod Loads
