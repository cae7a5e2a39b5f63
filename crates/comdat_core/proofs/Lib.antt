pub mod FirstsMore
pub mod TakingOut
pub mod Lists
pub mod Segments
pub mod KeptLists
pub mod Clashes
pub mod Loops
pub mod ChosenNumbers
pub mod KeptData
pub mod ModulesOfFirsts
-- The lists of COMDATs of modules, taken and put back one after another.
pub mod AsideLists
-- Where nothing is taken out of an input, all is kept but the lists of COMDATs, and none of it clashes.
pub mod NothingTaken
