mod Tests
mod Words
mod Pages
