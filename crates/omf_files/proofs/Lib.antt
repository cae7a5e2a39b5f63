mod RecordRead
mod BeginRead
mod WholeObject
mod LibraryRead
mod WholeLibrary
